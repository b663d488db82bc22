use mathlib.Core.Path.{refl}
use native.Mathlib.Omega.{arith}
use lib.ListN.{get_or-replicate}
use Rattle.font.specs.Refusals.{number}
use Rattle.font.proofs.Readings.{reading_stands}
use Rattle.font.proofs.Refusals.{not_zero}
use Rattle.query.specs.Sizes.{most_families}
use Rattle.query.specs.CallTables.{nowhere}
use Rattle.query.specs.Positions.{walk_in}
use Rattle.query.specs.Listed.{search_in}
use Rattle.query.proofs.AnswerCases.{finds_none, finds_same, job_refused, refusal_is, unknown_request, request_inside, request_answered}
use Rattle.query.proofs.call.search_with.Goals as goal

pub load-requires : goal.load-requires
load-requires c = record { room = (c.requires, refl); by_index = λ f l. get_or-replicate most_families f nowhere 0 l }

pub search_request-requires : goal.search_request-requires
unfolding walk_in
search_request-requires c =
    let loads = c.in-Ok.ensures in
    record { tables_of = (loads.loaded refl, loads.uncounted refl, loads.overrides refl); request_in_bounds = request_inside (reading_stands c.args.reading) loads refl c.in-Some.is }

pub returns-in-Err : goal.returns-in-Err
unfolding walk_in search_in
returns-in-Err c =
    let known = reading_stands c.args.reading in
    finds_none _ (not_zero _)
    (job_refused _ _ known _ _ _ (refusal_is known c.in-Err.ensures) (not_zero _))

pub returns-in-None : goal.returns-in-None
unfolding walk_in search_in number
returns-in-None c =
    finds_none 28 (λ z. omega arith) (unknown_request (reading_stands c.args.reading) c.in-Ok.ensures refl c.in-None.is _)

pub returns-in-Some : goal.returns-in-Some
unfolding walk_in
returns-in-Some c =
    let loads = c.in-Ok.ensures in
    finds_same (request_answered (reading_stands c.args.reading) loads refl c.in-Some.is _) (c.search_request.ensures _ (loads.shown refl))
