use Prim.Native.Nat.{◌+◌, ◌*◌, ◌≤◌}
use Rattle.query.proofs.OverriddenRows.{RowsLeft}
use Rattle.query.proofs.loading.load_overrides.Given as goal

abbrev pub invariant-loop : goal.invariant-loop
invariant-loop l = (l.place ≤ l.at + l.counter * 65536) × RowsLeft l.job l.at l.count l.counter l.place l.initial.rows l.rows
