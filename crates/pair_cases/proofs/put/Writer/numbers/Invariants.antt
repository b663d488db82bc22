-- The number stays below the divisor.
use Rattle.std.proofs.Common.{◌<◌}
use Rattle.pair_cases.proofs.put.Writer.numbers.Given as goal

abbrev pub invariant-loop : goal.invariant-loop
invariant-loop l = l.number < l.divisor
