-- The fallbacks follow the families, and the list is cut.
use Rattle.std.specs.Prelude.{Option, Result}
use Prim.Native.Nat.{ℕ, ◌+◌, ◌*◌}
use mathlib.Core.Path.{◌≡◌, sym, ◌∙◌, ap}
use mathlib.Core.List.{List}
use native.Mathlib.Omega.{arith}
use Rattle.std.specs.Result.{result_ok}
use lib.ListN.{get_or}
use Rattle.font.specs.Tables.{u16_at}
use Rattle.query.specs.declared.answer.Offer.{Offer}
use Rattle.query.specs.Sizes.{request_head}
use Rattle.query.specs.Offers.{offer_at}
use Rattle.query.specs.Values.{list_at, list_end, request_at}
use Rattle.query.specs.Listed.{row_offers, listed_at}
use Rattle.query.proofs.Turns.{turns, after_named, cut_off, not_cut}
use Rattle.query.proofs.offers.Search.request_offer.Goals as goal
use Rattle.query.proofs.offers.Search.request_offer.Goals.{After-list_offer, After-list_offer-in-Err}

-- the offers of each family, and the request's lists
abbrev offers : After-list_offer → ℕ → List ℕ
offers c = let self = c.args.self.now in row_offers self.job.now self.rows.now self.request

abbrev named : After-list_offer → List ℕ
named c = list_at c.args.self.now.job.now (c.args.at + request_head)

abbrev fallbacks : After-list_offer → List ℕ
fallbacks c = list_at c.args.self.now.job.now (list_end c.args.self.now.job.now (c.args.at + request_head))

-- what is asked; and what follows the answer of its families
abbrev asked : After-list_offer → Option Offer
asked c = let self = c.args.self.now in offer_at (listed_at self.job.now self.rows.now c.args.at self.request) c.args.n

abbrev after : After-list_offer → Result Offer ℕ → Option Offer
after c = after_named (offers c) (fallbacks c)

-- the families have answered
named_answered : (c : After-list_offer) → after c c.list_offer.result ≡ asked c
unfolding listed_at request_at
named_answered c =
    ap (after c) c.list_offer.ensures.value
    ∙ not_cut (offers c) (u16_at c.args.self.now.job.now c.args.at) (named c) (fallbacks c) c.args.n (omega arith)

pub returns-then-u16_at-n-clause-value : goal.returns-then-u16_at-n-clause-value
unfolding listed_at request_at
returns-then-u16_at-n-clause-value c =
    let self = c.args.self.now in
    let job = self.job.now in
    cut_off (row_offers job self.rows.now self.request) (u16_at job c.args.at) (list_at job (c.args.at + request_head)) (list_at job (list_end job (c.args.at + request_head))) c.args.n (omega arith)

pub returns-in-Ok-clause-value : goal.returns-in-Ok-clause-value
returns-in-Ok-clause-value c =
    let b = (goal.at.returns-in-Ok-clause-value c).After-list_offer in
    ap (after b) (sym c.in-Ok.is) ∙ named_answered b

pub returns-in-Err-clause-value : goal.returns-in-Err-clause-value
unfolding list_end
returns-in-Err-clause-value c =
    let b = (goal.at.returns-in-Err-clause-value c).After-list_offer in
    let kept = c.list_offer.ensures.kept in
    let named_at = c.args.at + request_head in
    let count = c.byte_at.ensures ∙ (λ i. get_or (kept.0 i).now named_at 0) in
    c.ok.ensures.value
    ∙ ap result_ok
    (c.list_offer-in-Err.ensures.value
    ∙ (λ i. turns (row_offers (kept.0 i).now (kept.1 i).now (kept.2 i)) (list_at (kept.0 i).now (named_at + 1 + 2 * count i)) c.in-Err.left))
    ∙ ap (after b) (sym c.in-Err.is)
    ∙ named_answered b
