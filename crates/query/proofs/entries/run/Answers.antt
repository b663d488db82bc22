use Prim.Native.Nat.{◌-◌}
use mathlib.Core.Path.{◌≡◌}
use native.Mathlib.Omega.{arith}
use Rattle.std.proofs.lemmas.Result.{err_from_is_err_and}
use Rattle.query.proofs.Runs.{run_over, run_stops, run_goes}
use Rattle.query.proofs.entries.run.Goals as goal

pub loop-init : goal.loop-init
loop-init g c = λ r h.
    let all : c.args.count - 0 ≡ c.args.count = omega arith in
    rw all at h

pub returns-in_err-place : goal.returns-in_err-place
returns-in_err-place g c =
    let p = err_from_is_err_and c.from_residual.result c.from_residual.ensures.1 in
    rw (p.1, p.2) (c.loop.invariant _ (run_stops _ _ _ _ (omega arith) c.in_err-place.ensures))

pub loop-preserved : goal.loop-preserved
loop-preserved g c = λ r h. c.loop.invariant _ (run_goes _ _ _ _ _ _ (omega arith) c.in_ok-place.ensures h)

pub returns : goal.returns
returns g c = c.loop.invariant _ (run_over _ _ _ (omega arith))
