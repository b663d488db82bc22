use mathlib.Core.Path.{◌∙◌}
use native.Mathlib.Omega.{arith}
use Rattle.font.proofs.Fields.{in16}
use Rattle.font.proofs.tables.u16_in.Goals as goal

pub returns : goal.returns
returns c = c.from_be_bytes.ensures ∙ in16 _ _ (omega arith)
