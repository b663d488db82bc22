use Rattle.std.proofs.Common.{arith, ◌≡◌, ℕ, ◌≤◌, false, cond, eqb, get_or, sym, ap}
use borrow.Author.Tests.{eq-eqb, lt-ltb, le-ltb}
use Rattle.font.specs.Refusals.{number, Checked, checked}
use Rattle.matching.specs.declared.family.FamilyInfo.{FamilyInfo}
use Rattle.matching.specs.Matching.{no_face, faces_refusal}
use Rattle.matching.specs.Family.{fetch_refusal, fetched, fetched_in}
use Rattle.matching.proofs.Below.{clash}
use Rattle.matching.proofs.Refusals.{over_test}
use Rattle.matching.proofs.Matched.{faces_few}
use Rattle.matching.proofs.family.FamilyInfo.match_font.Goals as goal

-- the answer with a refusal
abbrev given : FamilyInfo → ℕ → ℕ → Checked
given family place r = record { refusal = r; font = get_or family.fonts (cond (eqb r 0) place 0) no_face }

-- faces that are not too many, nor one of them with too many axes
few : (family : FamilyInfo) → eqb (faces_refusal family.fonts family.count) 19 ≡ false → family.count ≤ 64
few family e = faces_few family.fonts family.count (λ q. clash (eq-eqb (faces_refusal family.fonts family.count) 19 q) e)

pub returns-then-eq : goal.returns-then-eq
unfolding fetched fetched_in fetch_refusal checked number
returns-then-eq c =
    let a = c.args in
    let refused = over_test _ c.faces_refusal-refusal.result c.faces_refusal-refusal.ensures.value c.if-eq.ensures in
    ap (given a.self a.place) (sym (rw refused))

pub offset_bounds-self-place : goal.offset_bounds-self-place
offset_bounds-self-place c =
    let refused = over_test _ c.faces_refusal-refusal.result c.faces_refusal-refusal.ensures.value c.if-eq.ensures in
    omega (arith, few c.args.self refused)

pub bounds-self-place : goal.bounds-self-place
bounds-self-place c =
    let refused = over_test _ c.faces_refusal-refusal.result c.faces_refusal-refusal.ensures.value c.if-eq.ensures in
    omega (arith, few c.args.self refused)

pub returns-then-place-self : goal.returns-then-place-self
unfolding fetched fetched_in fetch_refusal checked number
returns-then-place-self c =
    let a = c.args in
    let refused = over_test _ c.faces_refusal-refusal.result c.faces_refusal-refusal.ensures.value c.if-eq.ensures in
    ap (given a.self a.place) (sym (rw (refused, lt-ltb a.place a.self.count c.if-place-self.true)))

pub returns-else-place-self : goal.returns-else-place-self
unfolding fetched fetched_in fetch_refusal checked number
returns-else-place-self c =
    let a = c.args in
    let refused = over_test _ c.faces_refusal-refusal.result c.faces_refusal-refusal.ensures.value c.if-eq.ensures in
    ap (given a.self a.place) (sym (rw (refused, le-ltb a.place a.self.count c.if-place-self.false)))
