-- The measure is the number of bytes that are left.
use Rattle.std.proofs.Common.{◌-◌, length}
use Rattle.offer_cases.proofs.print_list.Given as goal

abbrev pub decreases-loop-at : goal.decreases-loop-at
decreases-loop-at g l = length l.list - l.at
