use mathlib.Core.Path.{◌≡◌, sym, ap, ◌∙◌}
use native.Mathlib.Omega.{arith}
use Rattle.font.specs.declared.font.FontInfo.{FontInfo}
use Rattle.query.specs.Values.{override_at}
use Rattle.query.specs.View.{after_overrides}
use Rattle.query.proofs.OverridesLeft.{all_left, one_passed, none_left}
use Rattle.query.proofs.OverriddenFaces.{after_one_of, named, not_named, one_count}
use Rattle.query.proofs.faces.overridden.Invariants.{after}
use Rattle.query.proofs.faces.overridden.Goals as goal
use Rattle.query.proofs.faces.overridden.Goals.{else-u16_at-number, then-u16_at-number}

pub loop-init : goal.loop-init
loop-init c =
    let start = c.args in
    (omega arith, c.requires.2, λ n os lies. all_left (after start.number) n start.job.now start.count start.at os start.font lies)

pub override_face-changed-requires : goal.override_face-changed-requires
override_face-changed-requires c = (omega arith, c.loop.invariant.1)

pub loop-preserved : goal.loop-preserved
unfolding override_at after_overrides
loop-preserved c =
    let start = c.args in
    let o = override_at start.job.now c.loop.place in
    let face = c.u16_at.ensures in
    let one : c.if-u16_at-number.changed ≡ after_one_of o start.number c.loop.changed =
    elim c.if-u16_at-number.branch [
      | then-u16_at-number w ↦ w.changed-is ∙ w.override_face-changed.ensures ∙ named o start.number c.loop.changed (sym face ∙ w.if-u16_at-number.true)
      | else-u16_at-number w ↦ w.changed-is ∙ not_named o start.number c.loop.changed (λ e. w.if-u16_at-number.false (face ∙ e))
    ] in (
      omega (arith, c.override_end-place.ensures.1),
      rw (ap (λ (f : FontInfo). f.axis_count) one ∙ one_count o start.number c.loop.changed) c.loop.invariant.1,
      λ n os lies.
          one_passed (after start.number) n start.job.now start.count c.loop.counter c.loop.place _
          c.loop-test.true (c.loop.invariant.2 n os lies) c.override_end-place.ensures.0
          (λ known rest. ap (after start.number rest) one),
    )

pub returns : goal.returns
unfolding after_overrides
returns c =
    let start = c.args in
    record {
      is =
          λ n os lies.
          none_left (after start.number) n start.job.now start.count c.loop.counter c.loop.place
          c.loop-test.false (c.loop.invariant.2 n os lies);
    }
