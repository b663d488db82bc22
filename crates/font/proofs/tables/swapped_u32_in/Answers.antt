use mathlib.Core.Path.{◌∙◌}
use native.Mathlib.Omega.{arith}
use Prim.Native.Nat.{ℕ}
use Rattle.font.proofs.Fields.{le32, below32}
use Rattle.font.proofs.tables.swapped_u32_in.Goals as goal

pub returns : goal.returns
returns c =
    let s = c.args.s.now in
    let byte = λ (i : ℕ). c.type_inv.s i in
    (c.from_le_bytes.ensures ∙ le32 s c.args.at (omega arith) (λ i. omega (arith, byte i)), below32 s c.args.at (omega arith) (λ i. omega (arith, byte i)))
