use mathlib.Core.Path.{◌∙◌}
use Rattle.font.specs.Refusals as Refusals
use Rattle.query.specs.Reader.{number, no_face}
use Rattle.query.specs.Fields.{face_number, half}
use Rattle.query.proofs.Ends.{tested_ends}
use Rattle.query.proofs.fields.face_number.Goals as goal

pub returns : goal.returns
unfolding face_number half number Refusals.number
returns c = rw c.u16_at.ensures at c.tested.ensures ∙ tested_ends no_face _ _ _ _ _
