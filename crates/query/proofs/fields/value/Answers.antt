use mathlib.Core.Path.{◌∙◌}
use Rattle.font.specs.Refusals as Refusals
use Rattle.query.specs.Reader.{number, bad_number}
use Rattle.query.specs.Fields.{value, single}
use Rattle.query.proofs.Ends.{tested_ends}
use Rattle.query.proofs.fields.value.Goals as goal

pub returns : goal.returns
unfolding value single number Refusals.number
returns c = rw (c.finite_bits.ensures, c.u32_at.ensures) at c.tested.ensures ∙ tested_ends bad_number _ _ _ _ _
