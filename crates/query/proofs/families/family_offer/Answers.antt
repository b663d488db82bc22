-- What is left of the number behind the held equal faces is asked of the default.
use Rattle.std.specs.Prelude.{Result, Ok, Err}
use Prim.Native.Nat.{ℕ}
use mathlib.Core.Path.{◌≡◌, sym, ◌∙◌, ap}
use mathlib.Core.List.{List, ◌++◌}
use Rattle.matching.specs.declared.order.Request.{Request}
use Rattle.matching.specs.Order.{choice, equal_places}
use Rattle.matching.specs.Matching.{place_or}
use Rattle.matching.specs.declared.rows.Row.{Row}
use Rattle.matching.specs.Rows.{family_of_rows}
use Rattle.query.specs.Offers.{pick, keep, family_offers}
use Rattle.query.specs.CallTables.{held_row}
use Rattle.query.specs.Listed.{default_offers}
use Rattle.query.proofs.FamilyLists.{held_first, default_offers_lem, after_equal, then_rest}
use Rattle.query.proofs.families.family_offer.Goals as goal

-- the offers of the family, from what its held equal faces answer
answered : (rows : List Row) (members : List ℕ) (count : ℕ) (request : Request) (n : ℕ) {chosen : ℕ} {o : (Result ℕ ℕ)}
    → chosen ≡ choice (family_of_rows rows members count) request
    → o ≡ pick Ok Err (keep (held_row rows members) (equal_places (family_of_rows rows members count) chosen)) n
    → after_equal (default_offers rows members count chosen) o ≡ pick Ok Err (family_offers (family_of_rows rows members count) (held_row rows members) request) n
answered rows members count request n {chosen} is equal =
    let f = family_of_rows rows members count in
    let held = held_row rows members in
    let rest = default_offers rows members count chosen in
    ap (after_equal rest) equal
    ∙ then_rest (keep held (equal_places f chosen)) rest n
    ∙ ap (λ (xs : List ℕ). pick Ok Err xs n)
    ((λ k. keep held (equal_places f (is k)) ++ default_offers rows members count (is k))
    ∙ ap (λ (xs : List ℕ). keep held (equal_places f (choice f request)) ++ xs) (sym (default_offers_lem rows members count request))
    ∙ sym (held_first f held request))

pub returns-in-Ok : goal.returns-in-Ok
returns-in-Ok c =
    let a = c.args in
    ap (after_equal (default_offers a.family.rows.now a.family.members.now a.family.count (place_or a.family.count c.choose-chosen.result))) (sym c.in-Ok.is)
    ∙ answered a.family.rows.now a.family.members.now a.family.count a.request a.n c.choose-chosen.ensures.value c.held_equal.ensures

pub returns-in-Err : goal.returns-in-Err
returns-in-Err c =
    let a = c.args in
    c.default_offer.ensures
    ∙ ap (after_equal (default_offers a.family.rows.now a.family.members.now a.family.count (place_or a.family.count c.choose-chosen.result))) (sym c.in-Err.is)
    ∙ answered a.family.rows.now a.family.members.now a.family.count a.request a.n c.choose-chosen.ensures.value c.held_equal.ensures
