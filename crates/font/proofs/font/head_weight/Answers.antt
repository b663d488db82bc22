use borrow.Author.Tests.{eq-eqb, ne_eqb}
use lib.Ieee.{of_bits, of_int, round}
use Rattle.font.specs.Single.{single}
use Rattle.font.specs.StatedAttributes.{head_weight}
use Rattle.font.proofs.Classes.{lowest}
use Rattle.font.proofs.font.head_weight.Goals as goal

pub returns-then-mac_style-eq1 : goal.returns-then-mac_style-eq1
unfolding head_weight single of_bits of_int round
returns-then-mac_style-eq1 c = simp (lowest, eq-eqb _ _ c.if-mac_style-eq1.true)

pub returns-else-mac_style-eq1 : goal.returns-else-mac_style-eq1
unfolding head_weight single of_bits of_int round
returns-else-mac_style-eq1 c = simp (lowest, ne_eqb _ _ c.if-mac_style-eq1.false)
