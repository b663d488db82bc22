use Rattle.std.proofs.lemmas.Result.{err_from_is_err_and}
use mathlib.Core.Path.{refl}
use native.Mathlib.Omega.{arith}
use lib.ListN.{length-replicate}
use Rattle.matching.specs.declared.rows.Row.{Row}
use Rattle.font.proofs.Refusals.{not_zero}
use Rattle.query.specs.Call.{answer_in, map_ok}
use Rattle.query.specs.Listed.{search_in}
use Rattle.query.proofs.AnswerCases.{leads_none}
use Rattle.query.proofs.call.answer_with.Goals as goal

pub search_with-requires : goal.search_with-requires
search_with-requires g c = omega (arith, c.requires.0, length-replicate {A = Row})

pub returns-in_err-search_with : goal.returns-in_err-search_with
unfolding answer_in search_in
returns-in_err-search_with g c =
    let p = err_from_is_err_and c.from_residual.result c.from_residual.ensures.1 in
    rw (p.1, p.2) (leads_none _ (not_zero _) c.in_err-search_with.ensures)

pub answer_found-requires : goal.answer_found-requires
unfolding search_in
answer_found-requires g c = let finds = rw c.in-Some.is at c.in_ok-search_with.ensures in finds.readable refl

pub returns-in_err-answer_found-in-Some : goal.returns-in_err-answer_found-in-Some
unfolding map_ok
returns-in_err-answer_found-in-Some g c =
    let p = err_from_is_err_and c.from_residual-in_err-answer_found-in-Some.result c.from_residual-in_err-answer_found-in-Some.ensures.1 in
    let finds = rw c.in-Some.is at c.in_ok-search_with.ensures in
    rw (p.1, p.2) (finds.leads c.in_err-answer_found-in-Some.ensures)

pub returns-in-None : goal.returns-in-None
unfolding answer_in search_in
returns-in-None g c = leads_none 1 (λ z. omega arith) (rw c.in-None.is at c.in_ok-search_with.ensures)

pub returns-in_ok-answer_found-in-Some : goal.returns-in_ok-answer_found-in-Some
unfolding map_ok
returns-in_ok-answer_found-in-Some g c =
    let finds = rw c.in-Some.is at c.in_ok-search_with.ensures in
    finds.leads c.in_ok-answer_found-in-Some.ensures
