use mathlib.Core.Path.{sym, ◌∙◌}
use native.Mathlib.Omega.{arith}
use borrow.Author.Tests.{ltb-true, ltb-false}
use Rattle.font.proofs.Least.{best_start, best_kept}
use Rattle.font.proofs.Records.{best_of_whole, is_class, some_class, no_class, no_records}
use Rattle.font.proofs.charmap.some_qualifies.Goals as goal

pub returns-then-cmap-lt4 : goal.returns-then-cmap-lt4
returns-then-cmap-lt4 c = no_records _ c.if-cmap-lt4.true

pub loop-i-init : goal.loop-i-init
loop-i-init c = best_start _ _ _

pub returns-then-is_some : goal.returns-then-is_some
returns-then-is_some c =
    let low = ltb-true _ _ (sym (is_class _) ∙ sym c.is_some.ensures ∙ c.if-is_some.true) in
    some_class _ c.loop-i.i (omega (arith, c.whole_records-i-end.ensures)) (omega (arith, low, c.record_class.ensures))

pub loop-i-preserved : goal.loop-i-preserved
loop-i-preserved c =
    let high = ltb-false _ _ (sym (is_class _) ∙ sym c.is_some.ensures ∙ c.if-is_some.false) in
    best_kept 4 _ _ _ _ c.loop-i.invariant (omega (arith, high, c.record_class.ensures))

pub returns : goal.returns
returns c = no_class _ 0 (best_of_whole _ c.loop-i.i _ _ _ (omega (arith, c.whole_records-i-end.ensures)) c.loop-i.invariant)
