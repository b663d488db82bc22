use Rattle.font.specs.Slant.{reading_number}
use Rattle.query.proofs.RowsAfter.{FacesLeft}
use Rattle.query.proofs.loading.load_faces.Given as goal

abbrev pub invariant-loop-row : goal.invariant-loop-row
invariant-loop-row l = FacesLeft (reading_number l.reading) l.job l.at l.count l.row-index l.place l.initial.row-items l.row-items
