use Prim.Native.Nat.{◌-◌}
use Rattle.std.proofs.Common.{Result, ℕ}
use Rattle.query.specs.declared.job.Refused.{Refused}
use Rattle.query.specs.Items.{RunsTo}
use Rattle.query.proofs.entries.run.Given as goal

-- what the items that are left give is what all of them give
abbrev pub invariant-loop : goal.invariant-loop
invariant-loop g l =
    (result : Result ℕ Refused) → RunsTo (λ p x. goal.F-post g l.one p x) (l.count - l.counter) l.place result
    → RunsTo (λ p x. goal.F-post g l.one p x) l.count l.fn.at result
