use mathlib.Core.Path.{◌∙◌}
use Rattle.font.specs.Refusals as Refusals
use Rattle.query.specs.Reader.{number, over_limit}
use Rattle.query.specs.Fields.{count, half}
use Rattle.query.proofs.Ends.{tested_ends}
use Rattle.query.proofs.fields.count.Goals as goal

pub returns : goal.returns
unfolding count half number Refusals.number
returns c = rw c.u16_at.ensures at c.tested.ensures ∙ tested_ends over_limit _ _ _ _ _
