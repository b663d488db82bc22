-- As many are printed as there were turns.
use Rattle.std.proofs.Common.{◌≡◌}
use Rattle.output.proofs.words.print_settings.Given as goal

abbrev pub invariant-loop-setting : goal.invariant-loop-setting
invariant-loop-setting g l = l.printed ≡ l.setting-index
