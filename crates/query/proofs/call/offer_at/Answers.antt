use mathlib.Core.Path.{ap, ◌∙◌}
use native.Mathlib.Omega.{arith}
use Rattle.std.proofs.lemmas.Result.{err_from_is_err_and}
use Rattle.query.specs.Call.{without_offer, answer_in}
use Rattle.query.proofs.JobTables.{faces_counted}
use Rattle.query.proofs.AnswerCases.{no_reading}
use Rattle.query.proofs.CodeAnswers.{reading_refused, reading_is}
use Rattle.query.proofs.call.offer_at.Goals as goal

pub returns-in_err-reading : goal.returns-in_err-reading
unfolding answer_in
returns-in_err-reading c =
    let p = err_from_is_err_and c.from_residual.result c.from_residual.ensures.1 in
    let refused = reading_refused _ _ _ c.in_err-reading.ensures in
    rw (p.1, p.2) (ap without_offer refused.1 ∙ no_reading _ _ refused.0 _ _)

pub answer_with-requires : goal.answer_with-requires
answer_with-requires c = (omega (arith, c.u16_at.ensures, (faces_counted c.args.job.now).0), omega arith)

pub answer_with-requires-else-u16_at-le-FEW_FACES : goal.answer_with-requires-else-u16_at-le-FEW_FACES
answer_with-requires-else-u16_at-le-FEW_FACES c = ((faces_counted c.args.job.now).1, omega arith)

pub returns-then-u16_at-le-FEW_FACES : goal.returns-then-u16_at-le-FEW_FACES
returns-then-u16_at-le-FEW_FACES c = rw (reading_is c.args.job.now c.args.reading c.in_ok-reading.reading c.in_ok-reading.ensures) at c.answer_with.ensures

pub returns-else-u16_at-le-FEW_FACES : goal.returns-else-u16_at-le-FEW_FACES
returns-else-u16_at-le-FEW_FACES c = rw (reading_is c.args.job.now c.args.reading c.in_ok-reading.reading c.in_ok-reading.ensures) at c.answer_with-else-u16_at-le-FEW_FACES.ensures
