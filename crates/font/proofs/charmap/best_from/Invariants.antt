use Rattle.std.specs.Prelude.{Some}
use Rattle.font.specs.Charmap.{class_number, record_class}
use Rattle.font.proofs.Least.{Best}
use Rattle.font.proofs.charmap.best_from.Given as goal

abbrev pub invariant-loop-later : goal.invariant-loop-later
invariant-loop-later l = Best 4 (record_class l.cmap) l.later (class_number (Some l.best.class)) l.best.i
