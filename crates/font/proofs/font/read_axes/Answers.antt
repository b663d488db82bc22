use mathlib.Core.Path.{◌≡◌, refl, ◌∙◌, ap}
use native.Mathlib.Omega.{arith}
use lib.Ieee.{of_bits, of_int, round}
use Rattle.font.specs.First.{tabulate}
use Rattle.font.specs.Single.{single}
use Rattle.font.specs.Font.{no_axis, axes_of}
use Rattle.font.proofs.Tabulated.{filled}
use Rattle.font.proofs.font.read_axes.Goals as goal

pub loop-i-init : goal.loop-i-init
unfolding axes_of no_axis tabulate single of_bits of_int round
loop-i-init c = refl

pub loop-i-preserved : goal.loop-i-preserved
unfolding axes_of
loop-i-preserved c = rw (c.loop-i.invariant, c.axis_at.ensures) (filled _ _ 16 _ (omega (arith, c.requires)))

pub returns : goal.returns
returns c =
    let end : c.loop-i.i ≡ c.args.count = omega arith in
    c.loop-i.invariant ∙ ap (axes_of _) end
