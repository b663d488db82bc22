use mathlib.Core.Path.{◌≡◌}
use Rattle.font.specs.Font.{axes_of}
use Rattle.font.proofs.font.read_axes.Given as goal

abbrev pub invariant-loop-i : goal.invariant-loop-i
invariant-loop-i l = l.axes ≡ axes_of l.fvar l.i
