-- A family that is matched has the offer, or its count is known from then on.
use Rattle.std.specs.Prelude.{Ok, Err}
use Prim.Native.Nat.{ℕ, suc, ◌+◌, ◌-◌, ◌*◌, ◌^◌, ◌≤◌}
use mathlib.Core.Path.{◌≡◌, refl, sym, ◌∙◌, ap, subst}
use native.Mathlib.Omega.{arith}
use mathlib.Core.List.{List}
use lib.ListN.{length, get_or}
use Rattle.query.specs.Offers.{pick}
use Rattle.query.specs.CallTables.{begin_of, known_of}
use Rattle.query.specs.Listed.{offers_at, row_offers}
use Rattle.query.proofs.Picked.{pick_past}
use Rattle.query.proofs.FamilyLists.{Passed, passed_by}
use Rattle.query.proofs.RowFamilies.{unknown_number, number_by_rows, number_few, still_loaded, one_counted}
use Rattle.query.proofs.Loaded.{tables_of, loaded_of}
use Rattle.query.proofs.offers.Search.number_offer.Goals as goal
use Rattle.query.proofs.offers.Search.number_offer.Goals.{After-entry_offer-offer}

-- the family's offers
abbrev offered : After-entry_offer-offer → List ℕ
offered c = let self = c.args.self.now in row_offers self.job.now self.rows.now self.request c.args.family

-- it was matched: the answer is of its offers; and where there is no n-th, they are as many as were passed
matched : (c : After-entry_offer-offer) → c.entry_offer-offer.result ≡ pick Ok Err (offered c) c.args.n
matched c =
    let self = c.args.self.now in
    c.entry_offer-offer.ensures
    ∙ ap (λ (xs : List ℕ). pick Ok Err xs c.args.n)
    ((λ i. offers_at (c.requires i) (c.wide.ensures.0 i) self.rows.now self.request)
    ∙ number_by_rows (tables_of self.loaded) c.args.family (omega arith) self.request)

passed : (c : After-entry_offer-offer) (k : ℕ) → c.entry_offer-offer.result ≡ Err k
    → (c.args.n ≡ length (offered c) + k) × (length (offered c) ≤ 65)
passed c k e = (
  subst (Passed (offered c) c.args.n) (sym (matched c) ∙ e) (passed_by (offered c) c.args.n),
  number_few (tables_of c.args.self.now.loaded) c.args.family (omega arith) c.args.self.now.request,
)

pub returns-then-family-ge-MOST_FAMILIES-clause-value : goal.returns-then-family-ge-MOST_FAMILIES-clause-value
unfolding pick
returns-then-family-ge-MOST_FAMILIES-clause-value c =
    rw (unknown_number (tables_of c.args.self.now.loaded) c.args.self.now.request c.args.family c.if-family-ge-MOST_FAMILIES.true) refl

pub returns-then-known-n-clause-value : goal.returns-then-known-n-clause-value
returns-then-known-n-clause-value c =
    let self = c.args.self.now in
    let noted = c.wide-known.ensures.0 in
    let known = self.counted.right c.args.family (omega arith) (λ e. omega (arith, noted, e)) in
    let k = c.wide-known.result in
    sym (pick_past Ok Err (row_offers self.job.now self.rows.now self.request c.args.family) c.args.n (c.args.n - (k - 1)) (omega (arith, noted, known)))

pub overflow_sub-self : goal.overflow_sub-self
overflow_sub-self c = omega (arith, passed (goal.at.overflow_sub-self c).After-entry_offer-offer _ c.in-Err.is)

pub overflow_add-self : goal.overflow_add-self
overflow_add-self c = omega (arith, passed (goal.at.overflow_add-self c).After-entry_offer-offer _ c.in-Err.is)

pub overflow_cast-self : goal.overflow_cast-self
overflow_cast-self c = omega (arith, passed (goal.at.overflow_cast-self c).After-entry_offer-offer _ c.in-Err.is)

pub overflow_mul-self : goal.overflow_mul-self
overflow_mul-self c = omega (arith, passed (goal.at.overflow_mul-self c).After-entry_offer-offer _ c.in-Err.is)

pub overflow_add-self-in-Err : goal.overflow_add-self-in-Err
overflow_add-self-in-Err c = omega (arith, passed (goal.at.overflow_add-self-in-Err c).After-entry_offer-offer _ c.in-Err.is)

pub invariant_of-self : goal.invariant_of-self
invariant_of-self c =
    let a = c.args in
    let self = a.self.now in
    let b = (goal.at.invariant_of-self c).After-entry_offer-offer in
    let left = c.in-Err.left in
    let v = begin_of (get_or self.families.now a.family 0) + 2 ^ 25 * (a.n - left + 1) in
    let all = passed b left c.in-Err.is in
    let begins : begin_of v ≡ begin_of (get_or self.families.now a.family 0) = omega arith in
    let known : known_of v ≡ suc (length (offered b)) = omega (arith, all) in
    record {
      loaded = loaded_of (still_loaded (tables_of self.loaded) a.family (omega arith) self.request self.counted v begins known);
      counted = one_counted (tables_of self.loaded) a.family (omega arith) self.request self.counted v begins known;
    }

pub returns-in-Err-clause-value : goal.returns-in-Err-clause-value
returns-in-Err-clause-value c = sym c.in-Err.is ∙ matched (goal.at.returns-in-Err-clause-value c).After-entry_offer-offer

pub returns-in_default-clause-value : goal.returns-in_default-clause-value
returns-in_default-clause-value c = matched (goal.at.returns-in_default-clause-value c).After-entry_offer-offer
