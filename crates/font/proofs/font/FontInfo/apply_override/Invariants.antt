use mathlib.Core.Path.{◌≡◌}
use lib.ListN.{length}
use Rattle.font.specs.Overrides.{with_defaults}
use Rattle.font.proofs.font.FontInfo.apply_override.Given as goal

abbrev pub invariant-loop-tag : goal.invariant-loop-tag
invariant-loop-tag l = l.font ≡ with_defaults l.fn.self l.tags l.values (length l.yielded)
