-- The casts of a single to an integer, by its whole part (`whole_of`): no fraction, held to the ends of the integer's range, and 0 for a NaN. Assumes nothing.
use mathlib.Core.Path.{◌≡◌, refl, ap}
use mathlib.Core.Bool.{Bool, true, false, cond}
use Prim.Native.Nat.{ℕ, ◌-◌, ◌*◌, ◌/◌, ◌^◌, ◌<◌, min}
use native.Mathlib.Omega.{arith}
use lib.Dec.{lit<}
use lib.IntN.{ℤ, pos, neg_ℤ}
use lib.Ieee.{Float, nan, inf, fin, up, down, to_unsigned, to_signed}
use Rattle.font.specs.Single.{whole_of}
use Rattle.font.specs.Nearest.{negative}

-- ---- to an unsigned integer of 32 bits
pub unsigned : (x : Float) → to_unsigned 32 x ≡ cond (negative x) 0 (whole_of x)
unfolding to_unsigned whole_of
unsigned nan = refl
unsigned (inf s) = refl
unsigned (fin s m e) = refl

-- ---- to a signed integer of 8 bits
abbrev pub held : Bool → ℕ → ℤ
held s w = cond s (neg_ℤ (pos (min w (2 ^ 7)))) (pos (min w (2 ^ 7 - 1)))

pub signed : (x : Float) → to_signed 7 x ≡ held (negative x) (whole_of x)
unfolding to_signed whole_of
signed nan = refl
signed (inf true) = refl
signed (inf false) = refl
signed (fin s m e) = twice s (m * up e / down e)
  where
    capped : (w c : ℕ) → c < 2 ^ 32 → min w c ≡ min (min w (2 ^ 32 - 1)) c
    capped w c h = omega arith

    twice : (s : Bool) (w : ℕ) → held s w ≡ held s (min w (2 ^ 32 - 1))
    twice true w = ap (λ (z : ℕ). neg_ℤ (pos z)) (capped w (2 ^ 7) (lit< tt))
    twice false w = ap pos (capped w (2 ^ 7 - 1) (lit< tt))
