use mathlib.Core.Path.{◌∙◌}
use Rattle.font.specs.Refusals as Refusals
use Rattle.query.specs.Reader.{number, not_held}
use Rattle.query.specs.Fields.{held_byte, byte}
use Rattle.query.proofs.Ends.{tested_ends}
use Rattle.query.proofs.fields.held.Goals as goal

pub returns : goal.returns
unfolding held_byte byte number Refusals.number
returns c = rw c.byte_at.ensures at c.tested.ensures ∙ tested_ends not_held _ _ _ _ _
