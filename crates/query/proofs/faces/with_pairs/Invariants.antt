use mathlib.Core.Path.{◌≡◌}
use Rattle.query.specs.Values.{pairs_at}
use Rattle.query.specs.CallTables.{after_pairs}
use Rattle.query.proofs.faces.with_pairs.Given as goal

abbrev pub invariant-loop-k : goal.invariant-loop-k
invariant-loop-k l = l.set ≡ after_pairs (pairs_at l.job l.at l.count) l.k l.initial.set
