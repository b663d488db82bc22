use mathlib.Core.Path.{sym, ◌∙◌}
use Rattle.std.proofs.Common.{rules}
use Rattle.query.specs.Fields.{counted, face_number}
use Rattle.query.specs.Entries.{read_family}
use Rattle.query.proofs.Leaves.{count_read}
use Rattle.query.proofs.Runs.{run_ends}
use Rattle.query.proofs.Ends.{refuses, goes_on, ends}
use Rattle.query.proofs.entries.family.Goals as goal

pub returns-in_err-count : goal.returns-in_err-count
unfolding read_family counted
returns-in_err-count c = ends _ _ _ _ (refuses _ _ _ _ _ _ c.from_residual.ensures.1 c.in_err-count.ensures)

pub returns : goal.returns
unfolding read_family counted
returns c =
    ends _ _ _ _
    (goes_on _ _ _ _ c.in_ok-count.ensures
    (λ n e. rw ((count_read _ _ _ _ _ e).value ∙ sym c.u16_at-members.ensures) (run_ends _ (face_number c.args.faces) _ (λ p x h. search rules) _ _ _ c.run.ensures)))
