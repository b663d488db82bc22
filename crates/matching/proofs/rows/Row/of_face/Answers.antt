use mir.Val.{bool_byte}
use Rattle.std.proofs.Common.{◌≡◌, true, false, cond, refl, ◌∙◌}
use Rattle.matching.specs.Matching.{slnt, has_axis}
use Rattle.matching.specs.Rows.{row_of, face_row}
use Rattle.matching.proofs.rows.Row.of_face.Goals as goal

pub returns : goal.returns
unfolding face_row slnt
returns c = c.new.ensures ∙ rw c.has_axis.ensures (elim (has_axis c.args.font.now slnt) as (λ b. row_of c.args.font.now.attributes (bool_byte b) ≡ row_of c.args.font.now.attributes (cond b 1 0)) [ true ↦ refl | false ↦ refl ])
