use Prim.Native.Nat.{ℕ}
use mathlib.Core.Path.{◌≡◌, sym, ◌∙◌}
use mathlib.Core.Bool.{false}
use mathlib.Core.List.{List}
use lib.Ieee.{binary32, of_bits, of_int, round}
use lib.Ieee.Scale.{finite}
use Rattle.font.specs.Single.{single}
use Rattle.font.specs.Tables.{u32_at}
use Rattle.query.specs.Values.{number_at}
use Rattle.query.proofs.values.number_at.Goals as goal

-- bits of no number
number_none : (s : List ℕ) (p b : ℕ) → b ≡ u32_at s p → finite (of_bits binary32 b) ≡ false → single 0 ≡ number_at s p
unfolding number_at
number_none s p b e h = rw (← e, h)

pub returns-else-finite_bits : goal.returns-else-finite_bits
unfolding single of_bits of_int round
returns-else-finite_bits c = number_none _ _ _ c.u32_at-bits.ensures (sym c.finite_bits.ensures ∙ c.if-finite_bits.false)
