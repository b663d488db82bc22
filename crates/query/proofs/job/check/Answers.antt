use native.Mathlib.Omega.{arith}
use Rattle.std.proofs.lemmas.Result.{err_from_is_err_and}
use Rattle.query.specs.Job.{checked_in}
use Rattle.query.specs.Positions.{walk_in}
use Rattle.query.proofs.Demands.{demands}
use Rattle.query.proofs.job.check.Goals as goal

pub returns-in_err-walk : goal.returns-in_err-walk
unfolding checked_in walk_in
returns-in_err-walk c =
    let p = err_from_is_err_and c.from_residual.result c.from_residual.ensures.1 in
    record { value = rw (p.1, p.2) c.in_err-walk.ensures.checked; demands = demands _ (λ i. omega (arith, c.type_inv.job i)) }

pub returns : goal.returns
unfolding checked_in walk_in
returns c = record { value = c.in_ok-walk.ensures.checked; demands = demands _ (λ i. omega (arith, c.type_inv.job i)) }
