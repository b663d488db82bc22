use native.Mathlib.Omega.{arith}
use Rattle.font.proofs.Fields.{out32}
use Rattle.font.proofs.tables.u32_at.Goals as goal

pub returns-then-s-at : goal.returns-then-s-at
returns-then-s-at c = grind (arith, out32)
