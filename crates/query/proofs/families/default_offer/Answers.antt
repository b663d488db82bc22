use Rattle.std.specs.Prelude.{Ok, Err}
use Prim.Native.Nat.{◌-◌}
use mathlib.Core.Path.{◌≡◌, refl, sym, ◌∙◌}
use mathlib.Core.Bool.{Bool, cond}
use mathlib.Core.List.{[], ◌∷◌}
use native.Mathlib.Omega.{arith}
use Rattle.matching.specs.Matching.{place_or}
use Rattle.query.specs.Offers.{pick}
use Rattle.query.specs.Listed.{default_offers}
use Rattle.query.proofs.Picked.{pick_past}
use Rattle.query.proofs.FamilyLists.{offered_in}
use Rattle.query.proofs.families.default_offer.Goals as goal
use Rattle.query.proofs.families.default_offer.Goals.{After-offers_default}

-- what is offered behind the held equal faces
listed : (c : After-offers_default) (b : Bool) → c.offers_default.result ≡ b
    → default_offers c.args.family.rows.now c.args.family.members.now c.args.family.count (place_or c.args.family.count c.args.chosen) ≡ cond b (c.default_place-default.result ∷ []) []
unfolding default_offers
listed c b offered = rw (← c.default_place-default.ensures, ← c.offers_default.ensures, offered) refl

pub overflow_cast-result : goal.overflow_cast-result
overflow_cast-result c =
    let family = c.args.family in
    omega (arith, offered_in family.rows.now family.members.now family.count (place_or family.count c.args.chosen) c.default_place-default.result (sym c.offers_default.ensures ∙ c.if-not-offers_default.false), family.placed.few)

pub returns-then-not-offers_default : goal.returns-then-not-offers_default
unfolding pick
returns-then-not-offers_default c =
    rw (listed (goal.at.returns-then-not-offers_default c).After-offers_default _ c.if-not-offers_default.true) refl

pub returns-then-n-eq0 : goal.returns-then-n-eq0
unfolding pick
returns-then-n-eq0 c = rw (listed (goal.at.returns-then-n-eq0 c).After-offers_default _ c.if-not-offers_default.false, c.if-n-eq0.true) refl

pub returns-else-n-eq0 : goal.returns-else-n-eq0
returns-else-n-eq0 c =
    rw (listed (goal.at.returns-else-n-eq0 c).After-offers_default _ c.if-not-offers_default.false)
    (sym (pick_past Ok Err (c.default_place-default.result ∷ []) c.args.n (c.args.n - 1) (omega arith)))
