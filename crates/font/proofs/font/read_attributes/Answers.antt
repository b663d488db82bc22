use lib.Ieee.{of_bits, of_int, round}
use Rattle.font.specs.Single.{single}
use Rattle.font.specs.Attributes.{default_attributes}
use Rattle.font.proofs.Readings.{stated_default}
use Rattle.font.proofs.font.read_attributes.Goals as goal

pub returns-in_default : goal.returns-in_default
unfolding default_attributes single of_bits of_int round
returns-in_default c = rw (← c.font_start.ensures) (stated_default _ _ _ _ c.in_ok-reading.ensures c.in_default.ensures)
