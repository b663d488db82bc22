use mathlib.Core.Path.{sym, ◌∙◌}
use Rattle.std.proofs.Common.{rules}
use Rattle.query.specs.Fields.{byte, byte_counted}
use Rattle.query.specs.Entries.{read_pair}
use Rattle.query.proofs.Leaves.{byte_at, byte_read}
use Rattle.query.proofs.Runs.{run_ends}
use Rattle.query.proofs.Ends.{refuses, goes_on}
use Rattle.query.proofs.entries.pairs.Goals as goal

pub returns-in_err-count : goal.returns-in_err-count
unfolding byte_counted byte
returns-in_err-count c = refuses byte _ _ _ _ _ c.from_residual.ensures.1 (c.in_err-count.ensures byte_at)

pub returns : goal.returns
unfolding byte_counted byte
returns c =
    goes_on byte _ _ _ (c.in_ok-count.ensures byte_at)
    (λ n e. rw ((byte_read _ _ _ _ e).value ∙ sym c.byte_at-pairs.ensures) (run_ends _ read_pair _ (λ p x h. search rules) _ _ _ c.run.ensures))
