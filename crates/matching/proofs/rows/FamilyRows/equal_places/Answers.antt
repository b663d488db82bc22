-- The invariant: the array holds the equal places passed, in order, and zeros after them.
use Rattle.std.proofs.Common.{rules, arith, ◌<◌, ◌≡◌, ℕ, refl, sym, ◌∙◌, ap}
use borrow.Author.Tests.{lt-ltb, le-ltb}
use Rattle.matching.specs.Below.{places_below}
use Rattle.matching.specs.Matching.{place_or}
use Rattle.matching.specs.Order.{equal_places, padded, laid_out}
use Rattle.matching.proofs.Listed.{grown, kept}
use Rattle.matching.proofs.rows.FamilyRows.equal_places.Invariants.{equal}
use Rattle.matching.proofs.rows.FamilyRows.equal_places.Goals as goal
use Rattle.matching.proofs.rows.FamilyRows.equal_places.Goals.{else-same_face, then-same_face}

pub loop-place-init : goal.loop-place-init
unfolding places_below padded
loop-place-init c = (refl, refl, omega arith)

pub loop-place-preserved : goal.loop-place-preserved
loop-place-preserved c =
    let l = c.loop-place in
    let s = c.args.self in
    let p = equal s.rows.now s.members.now c.row-face.result in
    let same = rw c.row.ensures at c.same_face.ensures in
    elim c.if-same_face.branch [
      | then-same_face w ↦ grown p l.place l.places l.count l.invariant.0 l.invariant.1 l.invariant.2 c.if-same_face.places c.if-same_face.count (omega (arith, s.placed.few)) (sym same ∙ w.if-same_face.true) w.places-is w.count-is
      | else-same_face w ↦ kept p l.place l.places l.count l.invariant.0 l.invariant.1 l.invariant.2 c.if-same_face.places c.if-same_face.count (sym same ∙ w.if-same_face.false) w.places-is w.count-is
    ]

pub returns-after-loop-place : goal.returns-after-loop-place
unfolding equal_places laid_out place_or
returns-after-loop-place c =
    let l = c.loop-place in
    let s = c.args.self in
    let end : l.place ≡ s.count = omega arith in
    let within : c.in-Some.chosen < s.count = search rules in
    (λ k. record { places = l.invariant.0 k; count = l.invariant.1 k })
    ∙ ap (λ (n : ℕ). laid_out (places_below (equal s.rows.now s.members.now c.row-face.result) n)) end
    ∙ (rw (c.in-Some.is, lt-ltb c.in-Some.chosen s.count within, c.row-face.ensures))

pub returns-in_default : goal.returns-in_default
unfolding equal_places laid_out padded place_or
returns-in_default c = rw (c.in_default.is, le-ltb c.args.self.count c.args.self.count (omega arith))
