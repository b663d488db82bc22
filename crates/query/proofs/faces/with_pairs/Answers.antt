use mathlib.Core.Path.{sym, ◌∙◌}
use Rattle.font.specs.Overrides.{with_axes, with_defaults}
use Rattle.font.proofs.Defaults.{no_pairs}
use Rattle.query.specs.CallTables.{after_pairs}
use Rattle.query.proofs.OverriddenFaces.{more_pairs}
use Rattle.query.proofs.faces.with_pairs.Goals as goal

pub loop-k-init : goal.loop-k-init
unfolding after_pairs with_defaults
loop-k-init c = sym (no_pairs _ _ _)

pub with_default-set-requires : goal.with_default-set-requires
unfolding after_pairs with_axes
with_default-set-requires c = rw c.loop-k.invariant c.requires.2

pub loop-k-preserved : goal.loop-k-preserved
loop-k-preserved c =
    let start = c.args in
    c.with_default-set.ensures
    ∙ more_pairs start.job.now start.at start.count c.loop-k.k start.font
    c.loop-k-test.true c.loop-k.invariant c.u32_at-tag.ensures c.number_at.ensures
