use mathlib.Core.Path.{◌∙◌}
use Rattle.font.specs.Refusals as Refusals
use Rattle.query.specs.Reader.{number, unknown}
use Rattle.query.specs.Fields.{mask, byte}
use Rattle.query.proofs.Ends.{tested_ends}
use Rattle.query.proofs.fields.mask.Goals as goal

pub returns : goal.returns
unfolding mask byte number Refusals.number
returns c = rw c.byte_at.ensures at c.tested.ensures ∙ tested_ends unknown _ _ _ _ _
