use Rattle.std.proofs.Common.{◌≡◌, ℕ, Bool, true, false, cond, Some, None, refl, ◌∙◌, ap}
use Rattle.std.specs.Option.{is_some}
use Rattle.matching.specs.Matching.{axis_place, has_axis}
use Rattle.matching.proofs.axes.has_axis.Goals as goal

placed : (b : Bool) (place : ℕ) → is_some (cond b (Some place) None) ≡ b
placed true place = refl
placed false place = refl

pub returns : goal.returns
returns c =
    let a = c.args in
    c.is_some.ensures ∙ ap is_some c.axis_place.ensures ∙ placed (has_axis a.font.now a.tag) (axis_place a.font.now a.tag)
