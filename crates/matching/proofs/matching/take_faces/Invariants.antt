use Rattle.matching.specs.Rows.{TakenRows}
use Rattle.matching.proofs.matching.take_faces.Given as goal

abbrev pub invariant-loop-place : goal.invariant-loop-place
invariant-loop-place l = TakenRows l.fonts l.place l.rows
