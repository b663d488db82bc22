-- by computing
use lib.Ieee.{of_int, round, of_bits}
use Rattle.font.specs.Single.{single}
use Rattle.output.proofs.made.styled.Goals as goal

pub returns : goal.returns
unfolding single of_int round of_bits
returns c = c.new.ensures
