-- The number of the answer as `checked_in` lays it out. A position is at most the job's length, so that the number fits.
use Rattle.std.proofs.Common.{ℕ, ◌+◌, ◌*◌, ap, arith}
use Rattle.query.specs.Job.{Checked, checked_in}
use Rattle.query.proofs.FirstMet.{position_in_job}
use Rattle.stemhook.proofs.stemhook_check.Goals as goal

one_number : Checked → ℕ
one_number checked = checked.position * 256 + checked.refusal

pub returns-in-Ok-clause-value : goal.returns-in-Ok-clause-value
unfolding checked_in one_number
returns-in-Ok-clause-value c = ap one_number c.in-Ok.ensures.value

pub returns-in-Err-clause-value : goal.returns-in-Err-clause-value
unfolding checked_in one_number
returns-in-Err-clause-value c = rw (c.from.ensures, c.number.ensures) (ap one_number c.in-Err.ensures.value)

pub overflow_mul-result : goal.overflow_mul-result
unfolding checked_in
overflow_mul-result c =
    omega (arith, (position_in_job c.args.job.now).1, ap (λ (r : Checked). r.position) c.in-Err.ensures.value)

pub overflow_add-result : goal.overflow_add-result
unfolding checked_in
overflow_add-result c =
    omega (arith, (position_in_job c.args.job.now).1, ap (λ (r : Checked). r.position) c.in-Err.ensures.value)
