use Rattle.font.specs.Charmap.{record_class}
use Rattle.font.proofs.Least.{Best}
use Rattle.font.proofs.charmap.best_record.Given as goal

abbrev pub invariant-loop-i : goal.invariant-loop-i
invariant-loop-i l = Best 4 (record_class l.cmap) l.i 4 0
