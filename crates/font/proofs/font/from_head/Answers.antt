use mathlib.Core.Path.{sym, ◌∙◌}
use lib.Ieee.{of_bits, of_int, round}
use Rattle.font.specs.Single.{single}
use Rattle.font.specs.StatedAttributes.{from_head}
use Rattle.font.proofs.font.from_head.Goals as goal

pub returns : goal.returns
unfolding from_head single of_bits of_int round
returns c = c.new.ensures ∙ simp (sym c.u16_at-mac_style.ensures, sym c.head_style-style.ensures, sym c.head_weight-weight.ensures)
