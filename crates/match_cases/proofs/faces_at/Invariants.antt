-- Each face that was passed took less than 4096 bytes.
use Rattle.std.proofs.Common.{◌+◌, ◌*◌, ◌≤◌}
use Rattle.match_cases.proofs.faces_at.Given as goal

abbrev pub invariant-loop-i : goal.invariant-loop-i
invariant-loop-i l = (l.start ≤ l.at) × (l.at ≤ l.start + 4096 * l.i)
