use native.Mathlib.Omega.{arith}
use Rattle.std.specs.Prelude.{None}
use Rattle.font.specs.Charmap.{class_number, best_number}
use Rattle.font.proofs.Least.{best_start, best_kept}
use Rattle.font.proofs.Records.{best_of_whole, best_found, place}
use Rattle.font.proofs.charmap.best_record.Goals as goal

pub loop-i-init : goal.loop-i-init
loop-i-init c = best_start _ _ _

pub returns-in-Some : goal.returns-in-Some
unfolding best_number
returns-in-Some c = c.best_from.ensures

pub loop-i-preserved : goal.loop-i-preserved
unfolding class_number
loop-i-preserved c = best_kept 4 _ _ _ _ c.loop-i.invariant (omega (arith, c.in_default.ensures))

pub returns : goal.returns
unfolding best_number place
returns c =
    best_found _ None (best_of_whole _ c.loop-i.i _ _ _ (omega (arith, c.whole_records-i-end.ensures)) c.loop-i.invariant)
