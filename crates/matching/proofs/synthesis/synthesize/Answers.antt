-- Each call gives what its definition says; the skew comes back from its eight bits.
use mir.Syntax.{w8}
use mir.ValLaws.{to_z-of_z}
use mathlib.Core.Path.{◌∙◌}
use Rattle.matching.specs.Synthesis.{synthesized}
use Rattle.matching.proofs.ThreeSettings.{one, two, three, made, last, no_error}
use Rattle.matching.proofs.synthesis.synthesize.Goals as goal

pub returns-in_err-added : goal.returns-in_err-added
returns-in_err-added c = absurd (no_error _ _ _ c.in_err-added.ensures (rw c.unvaried.ensures (one _ _ _)))

pub returns-in_err-added-2 : goal.returns-in_err-added-2
returns-in_err-added-2 c =
    let first = made _ _ _ c.in_ok-added.ensures in
    absurd (no_error _ _ _ c.in_err-added-2.ensures (rw (first, c.unvaried.ensures) (two _ _ _ _)))

pub returns : goal.returns
unfolding synthesized
returns c =
    let first = made _ _ _ c.in_ok-added.ensures in
    let second = made _ _ _ c.in_ok-added-2.ensures in
    let skew = to_z-of_z w8 c.skew_of.result (record { sfits = c.skew_of.type_inv }) in
    last _ _ _ c.added-3.ensures (rw (second, first, c.unvaried.ensures) (three _ _ _ _ _))
    ∙ rw (
      second,
      first,
      c.unvaried.ensures,
      skew,
      c.skew_of.ensures,
      c.setting_of.ensures,
      c.lean_of-lean.ensures,
      c.emboldens-embolden.ensures,
      c.width_setting.ensures,
      c.weight_setting.ensures,
    )
