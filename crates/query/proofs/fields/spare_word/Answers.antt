use mathlib.Core.Path.{◌∙◌}
use Rattle.font.specs.Refusals as Refusals
use Rattle.query.specs.Reader.{number, unknown}
use Rattle.query.specs.Fields.{spare_word, word}
use Rattle.query.proofs.Ends.{tested_ends}
use Rattle.query.proofs.fields.spare_word.Goals as goal

pub returns : goal.returns
unfolding spare_word word number Refusals.number
returns c = rw c.u32_at.ensures at c.tested.ensures ∙ tested_ends unknown _ _ _ _ _
