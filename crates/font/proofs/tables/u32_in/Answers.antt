use mathlib.Core.Path.{◌∙◌}
use native.Mathlib.Omega.{arith}
use Rattle.font.proofs.Fields.{be32}
use Rattle.font.proofs.tables.u32_in.Goals as goal

pub returns : goal.returns
returns c = c.from_be_bytes.ensures ∙ be32 _ _ (omega arith)
