use Rattle.std.proofs.Common.{◌≡◌}
use Rattle.font.specs.Refusals.{refusal_in}
use Rattle.matching.proofs.Taken.{refusal_below}
use Rattle.matching.proofs.matching.faces_refusal.Given as goal

abbrev pub invariant-loop-font : goal.invariant-loop-font
invariant-loop-font l = refusal_in l.found ≡ refusal_below l.fonts l.font-index
