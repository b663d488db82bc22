use Rattle.query.specs.Entries.{read_face}
use Rattle.query.proofs.Ends.{refuses, goes_on, ends}
use Rattle.query.proofs.entries.face.Goals as goal

pub returns-in_err-held : goal.returns-in_err-held
unfolding read_face
returns-in_err-held c = refuses _ _ _ _ _ _ c.from_residual.ensures.1 c.in_err-held.ensures

pub returns : goal.returns
unfolding read_face
returns c = goes_on _ _ _ _ c.in_ok-held.ensures (λ v e. ends _ _ _ _ c.font_file.ensures)
