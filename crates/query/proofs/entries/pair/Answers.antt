use Rattle.font.specs.Tables.{u32_at}
use Rattle.query.specs.Fields.{word}
use Rattle.query.specs.Entries.{read_pair}
use Rattle.query.proofs.Ends.{refuses, goes_on, ends}
use Rattle.query.proofs.entries.pair.Goals as goal

pub returns-in_err-tag : goal.returns-in_err-tag
unfolding read_pair word
returns-in_err-tag c = refuses word _ _ _ _ _ c.from_residual.ensures.1 (c.in_err-tag.ensures u32_at)

pub returns : goal.returns
unfolding read_pair word
returns c = goes_on word _ _ _ (c.in_ok-tag.ensures u32_at) (λ v e. ends _ _ _ _ c.value.ensures)
