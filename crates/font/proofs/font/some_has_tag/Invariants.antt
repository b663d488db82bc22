use mathlib.Core.Path.{◌≡◌}
use mathlib.Core.Bool.{false}
use lib.Dec.{eqb}
use Rattle.font.specs.First.{some}
use Rattle.font.specs.Font.{axis_at}
use Rattle.font.proofs.font.some_has_tag.Given as goal

abbrev pub invariant-loop-i : goal.invariant-loop-i
invariant-loop-i l = some (λ k. eqb (axis_at l.fvar k).tag l.tag) l.i ≡ false
