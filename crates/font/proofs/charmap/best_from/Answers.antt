use mathlib.Core.Path.{sym, ◌∙◌}
use native.Mathlib.Omega.{arith}
use borrow.Author.Tests.{ltb-true, ltb-false}
use Rattle.std.specs.Prelude.{Some}
use Rattle.font.specs.Charmap.{best_number, class_number}
use Rattle.font.proofs.Least.{best_new, best_kept}
use Rattle.font.proofs.Records.{class_low, best_first, best_of_whole, best_found, full_found, place}
use Rattle.font.proofs.charmap.best_from.Goals as goal
use Rattle.font.proofs.charmap.best_from.Goals.{in-Some+then-is_better+else-eq-2, in-Some+else-is_better, in_default}

pub returns-then-eq : goal.returns-then-eq
returns-then-eq c =
    let first = c.requires.is_first in
    full_found _ _ _ c.requires.is_stated.0 (sym c.eq.ensures ∙ c.if-eq.true) (best_first _ _ _ first.0 first.1)

pub overflow_step-later : goal.overflow_step-later
overflow_step-later c = omega (arith, c.requires.is_stated.1)

pub loop-later-init : goal.loop-later-init
loop-later-init c = let first = c.requires.is_first in best_first _ _ _ first.0 first.1

pub returns-then-eq-2 : goal.returns-then-eq-2
returns-then-eq-2 c =
    let better = ltb-true _ _ (rw c.in-Some.ensures at (sym c.is_better.ensures ∙ c.if-is_better.true)) in
    full_found _ _ _ (omega (arith, c.whole_records-later-end.ensures)) (sym c.eq-then-is_better.ensures ∙ c.if-eq-2.true) (rw c.in-Some.ensures (best_new 4 _ _ _ _ c.loop-later.invariant better))

pub loop-later-preserved : goal.loop-later-preserved
unfolding class_number
loop-later-preserved c =
    elim c.match-record_class.branch [
      | in-Some+then-is_better+else-eq-2 w ↦
          rw (w.best-is, w.in-Some.ensures)
          (best_new 4 _ _ _ _ c.loop-later.invariant (ltb-true _ _ (rw w.in-Some.ensures at (sym w.is_better.ensures ∙ w.if-is_better.true))))
      | in-Some+else-is_better w ↦
          rw w.best-is
          (best_kept 4 _ _ _ _ c.loop-later.invariant (ltb-false _ _ (rw w.in-Some.ensures at (sym w.is_better.ensures ∙ w.if-is_better.false))))
      | in_default w ↦ rw w.best-is (best_kept 4 _ _ _ _ c.loop-later.invariant (omega (arith, w.in_default.ensures, class_low c.loop-later.best.class)))
    ]

pub returns : goal.returns
unfolding best_number place
returns c =
    best_found _ (Some c.loop-later.best) (best_of_whole _ c.loop-later.later _ _ _ (omega (arith, c.whole_records-later-end.ensures)) c.loop-later.invariant)
