-- The invariant: the families before `k` are passed, and `left` is what is left of the number.
use Rattle.std.specs.Prelude.{Result}
use Prim.Native.Nat.{ℕ, ◌+◌}
use mathlib.Core.Path.{◌≡◌, sym, ◌∙◌, ap}
use mathlib.Core.List.{List}
use native.Mathlib.Omega.{arith}
use lib.ListN.{drop}
use Rattle.query.specs.declared.answer.Offer.{Offer}
use Rattle.query.specs.Values.{list_at}
use Rattle.query.specs.Offers.{offer_of}
use Rattle.query.specs.Listed.{row_offers}
use Rattle.query.proofs.Turns.{list_length, list_number, turns, places, after_one, one_more, no_more}
use Rattle.query.proofs.offers.Search.list_offer.Goals as goal
use Rattle.query.proofs.offers.Search.list_offer.Goals.{After-number_offer}

-- the offers of each family, and the list; and what follows the answer of one family
abbrev offers : After-number_offer → ℕ → List ℕ
offers c = let self = c.args.self.now in row_offers self.job.now self.rows.now self.request

abbrev list : After-number_offer → List ℕ
list c = list_at c.args.self.now.job.now c.args.at

abbrev after : After-number_offer → Result ℕ ℕ → Result Offer ℕ
after c = after_one (offers c) c.u16_at-family.result (drop (c.loop-k.k + 1) (list c))

stepped : (c : After-number_offer) → turns (offers c) (list c) c.args.n ≡ after c c.number_offer.result
stepped c =
    let job = c.args.self.now.job.now in
    let l = c.loop-k in
    let kept = l.invariant in
    let f = c.u16_at-family in
    let numbers = list_length job c.args.at in
    kept.left
    ∙ one_more (offers c) (list c) l.k f.result l.left c.number_offer.result
    (omega arith)
    (f.ensures ∙ sym (list_number job c.args.at l.k (omega arith)))
    (c.number_offer.ensures.value ∙ (λ i. places (row_offers (kept.job i).now (kept.rows i).now (kept.request i)) f.result l.left))

pub returns-in-Ok-clause-value : goal.returns-in-Ok-clause-value
unfolding offer_of
returns-in-Ok-clause-value c =
    let b = (goal.at.returns-in-Ok-clause-value c).After-number_offer in
    sym (stepped b ∙ ap (after b) c.in-Ok.is)

pub loop-k-preserved : goal.loop-k-preserved
loop-k-preserved c =
    let b = (goal.at.loop-k-preserved c).After-number_offer in
    let kept = c.number_offer.ensures.kept in
    let before = c.loop-k.invariant in
    record { job = kept.0 ∙ before.job; rows = kept.1 ∙ before.rows; request = kept.2 ∙ before.request; left = stepped b ∙ ap (after b) c.in-Err.is }

pub returns-clause-value : goal.returns-clause-value
returns-clause-value c =
    let self = c.args.self.now in
    let l = c.loop-k in
    let numbers = list_length self.job.now c.args.at in
    sym (l.invariant.left ∙ no_more (row_offers self.job.now self.rows.now self.request) (list_at self.job.now c.args.at) l.k l.left (omega arith))
