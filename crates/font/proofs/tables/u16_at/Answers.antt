use native.Mathlib.Omega.{arith}
use Rattle.font.proofs.Fields.{out16}
use Rattle.font.proofs.tables.u16_at.Goals as goal

pub returns-then-s-at : goal.returns-then-s-at
returns-then-s-at c = grind (arith, out16)
