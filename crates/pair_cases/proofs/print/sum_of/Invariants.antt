-- The sum stays below 65521.
use Rattle.std.proofs.Common.{◌<◌}
use Rattle.pair_cases.proofs.print.sum_of.Given as goal

abbrev pub invariant-loop-byte : goal.invariant-loop-byte
invariant-loop-byte l = l.sum < 65521
