-- The number of the answer as `result_in` has it.
use Rattle.query.specs.Call.{result_in}
use Rattle.stemhook.proofs.stemhook_offer.Goals as goal

pub returns-in-Ok-true-clause-calls : goal.returns-in-Ok-true-clause-calls
unfolding result_in
returns-in-Ok-true-clause-calls c = rw c.in-Ok-true.field-0-test at c.in-Ok-true.ensures.calls

pub returns-in-Ok-false-clause-calls : goal.returns-in-Ok-false-clause-calls
unfolding result_in
returns-in-Ok-false-clause-calls c = rw c.in-Ok-false.field-0-test at c.in-Ok-false.ensures.calls

pub returns-in-Err-clause-calls : goal.returns-in-Err-clause-calls
unfolding result_in
returns-in-Err-clause-calls c = rw (c.from.ensures, c.number.ensures) c.in-Err.ensures.calls
