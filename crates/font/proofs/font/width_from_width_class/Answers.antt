use mathlib.Core.Path.{◌∙◌}
use lib.Ieee.{of_bits, round}
use Rattle.font.specs.StatedAttributes.{thousandths, class_widths}
use Rattle.font.proofs.Classes.{listed, past}
use Rattle.font.proofs.font.width_from_width_class.Goals as goal

pub returns-then-class-lt9 : goal.returns-then-class-lt9
unfolding thousandths class_widths of_bits round
returns-then-class-lt9 c = c.new.ensures ∙ listed _ c.if-class-lt9.true

pub returns-else-class-lt9 : goal.returns-else-class-lt9
unfolding thousandths class_widths of_bits round
returns-else-class-lt9 c = c.new-else-class-lt9.ensures ∙ past _ c.if-class-lt9.false
