-- The axes so far are written.
use Rattle.std.proofs.Common.{◌∷◌, take}
use Rattle.std.specs.Prelude.{flat_map}
use Rattle.std.specs.Fmt.{HasWritten, IsPlainFormatter}
use Rattle.output.specs.Faces.{axis_words}
use Rattle.output.proofs.faces.AxesDisplay.fmt.Given as goal

abbrev pub invariant-loop-axis : goal.invariant-loop-axis
invariant-loop-axis g l =
    IsPlainFormatter l.initial.f
    → HasWritten g.W.Write.write_str_gives l.initial.f (flat_map (λ axis. 32 ∷ axis_words axis) (take l.axis-index l.axis-items)) l.f
