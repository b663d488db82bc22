-- The invariant: none of the places passed has the percent and a slant axis.
use Rattle.std.proofs.Common.{arith, ◌≡◌, true, false, ◌&&◌, refl, sym, ◌∙◌}
use borrow.Author.Tests.{eq-eqb, ne_eqb}
use Rattle.matching.specs.Below.{some}
use Rattle.matching.proofs.Below.{some_at, some_more}
use Rattle.matching.proofs.rows.FamilyRows.slant_at.Invariants.{slanted}
use Rattle.matching.proofs.rows.FamilyRows.slant_at.Goals as goal
use Rattle.matching.proofs.rows.FamilyRows.slant_at.Goals.{else-face-percent-via-then-face-percent+else-face-eq1, else-face-percent-via-else-face-percent}

pub loop-place-init : goal.loop-place-init
unfolding some
loop-place-init c = refl

pub returns-then-face-eq1 : goal.returns-then-face-eq1
returns-then-face-eq1 c =
    let s = c.args.self in
    let p = slanted s.rows.now s.members.now c.args.percent in
    let i = c.loop-place.place in
    let asks = sym c.asks_slant.ensures ∙ c.if-asks_slant.true in
    let here : p i ≡ true = rw (sym c.row-face.ensures, eq-eqb _ _ c.if-face-percent.true, eq-eqb _ _ c.if-face-eq1.true) in
    sym (λ k. asks k && some_at p s.count i (omega arith) here k)

pub loop-place-preserved : goal.loop-place-preserved
loop-place-preserved c =
    let s = c.args.self in
    let p = slanted s.rows.now s.members.now c.args.percent in
    let here : p c.loop-place.place ≡ false =
    elim c.else-face-percent.branch [
      | else-face-percent-via-then-face-percent+else-face-eq1 w ↦ rw (sym c.row-face.ensures, eq-eqb _ _ w.if-face-percent.true, ne_eqb _ _ w.if-face-eq1.false)
      | else-face-percent-via-else-face-percent w ↦ rw (sym c.row-face.ensures, ne_eqb _ _ w.if-face-percent.false)
    ] in
    some_more p c.loop-place.place c.loop-place.invariant here
