use Rattle.std.proofs.Common.{rules}
use mathlib.Core.Path.{sym, ◌∙◌}
use Rattle.font.specs.Tables.{u32_at}
use Rattle.query.specs.Fields.{sized_file, word, font_bytes}
use Rattle.query.proofs.Ends.{refuses, goes_on}
use Rattle.query.proofs.Leaves.{word_read}
use Rattle.query.proofs.Fonts.{placed_bytes}
use Rattle.query.proofs.fields.sized_file.Goals as goal

pub returns-in_err-start : goal.returns-in_err-start
unfolding sized_file word
returns-in_err-start c = refuses word (font_bytes c.args.at) _ _ _ _ c.from_residual.ensures.1 (c.in_err-start.ensures u32_at)

pub returns : goal.returns
unfolding sized_file word
returns c =
    goes_on word (font_bytes c.args.at) _ _ (c.in_ok-start.ensures u32_at)
    (λ v e. placed_bytes _ _ _ _ _ _ (rw (c.u32_at-size.ensures ∙ sym (word_read _ _ _ _ e).value) at c.bytes-2.ensures u32_at) c.map_err.ensures.cases (λ why moved h. search rules))
