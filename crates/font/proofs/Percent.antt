-- The whole percent of a width ratio: 100 for 1, and at most 1600 for a ratio that is accepted. Assumes nothing.
use mathlib.Core.Path.{◌≡◌, refl, ap, ◌∙◌}
use mathlib.Core.Bool.{Bool, true, false, ◌&&◌, ◌||◌, cond}
use Prim.Native.Nat.{ℕ, zero, suc, ◌+◌, ◌-◌, ◌*◌, ◌/◌, ◌^◌, ◌≤◌, zero-le}
use native.Mathlib.Nat.{le_trans, le_of_lt, le_of_eq, mul-pos, div-le_of_le-mul, min-le_left}
use native.Mathlib.Omega.{arith}
use lib.Dec.{T, ltb, eqb, eqb→eq, lit<}
use lib.IntN.{ℤ}
use lib.Ieee.{Float, nan, inf, fin, Format, prec, emax, low, binary32, up, down, of_int, odd, units, round, mul, lt, eq, le, to_unsigned}
use lib.Ieee.Fits.{and_l, and_r, down_pos}
use lib.Ieee.Order.{round_mono}
use borrow.Author.Tests.{ltb-true}
use Rattle.font.specs.Single.{single, whole_percent, accepted_ratio}

pub percent_of_one : whole_percent (single 1) ≡ 100
unfolding whole_percent single of_int round mul to_unsigned
percent_of_one = refl

-- ---- a rounded number with a minus is cast to 0

odd_minus : (d q k l w : ℕ) → to_unsigned w (odd d true q k l) ≡ 0
unfolding odd to_unsigned
odd_minus d zero k l w = refl
odd_minus d (suc q) k l w = refl

units_minus : (f : Format) (q k w : ℕ) → to_unsigned w (units f true q k) ≡ 0
unfolding units to_unsigned
units_minus f q k w = go (ltb (q * 2 ^ k) (2 ^ (low f + suc (emax f))))
  where
    go : (b : Bool) → to_unsigned w (cond b (odd (suc (prec f)) true q k (low f)) (inf true)) ≡ 0
    go true = odd_minus (suc (prec f)) q k (low f) w
    go false = refl

round_minus : (f : Format) (a c w : ℕ) → to_unsigned w (round f true a c) ≡ 0
unfolding round
round_minus f a c w = units_minus f _ _ w

-- ---- what is at most 1600 is cast to at most 1600

at_most : (a b : ℕ) (c : Bool) → T (ltb a b || (eqb a b && c)) → a ≤ b
at_most a b c t = go (ltb a b) refl t
  where
    go : (s : Bool) → ltb a b ≡ s → T (s || (eqb a b && c)) → a ≤ b
    go true e t = le_of_lt (ltb-true a b e)
    go false e t = le_of_eq (eqb→eq a b (and_l (eqb a b) c t))

cast_le : (z : Float) → T (le z (round binary32 false 1600 1)) → to_unsigned 32 z ≤ 1600
unfolding le lt eq round to_unsigned
cast_le nan t = zero-le
cast_le (inf true) t = zero-le
cast_le (inf false) t = absurd t
cast_le (fin true n d) t = zero-le
cast_le (fin false n d) t =
    let l : n * up d ≤ down d * 1600 = omega (arith, at_most (n * up d * 1) (1600 * down d) true t) in
    le_trans (min-le_left (n * up d / down d) (2 ^ 32 - 1)) (div-le_of_le-mul (down d) l)

-- the product is worked out exactly, and rounded
product : (s : Bool) (m : ℕ) (e : ℤ) → mul binary32 (fin s m e) (single 100) ≡ round binary32 s (m * up e * 100) (down e * 1)
unfolding mul single of_int round
product true m e = refl
product false m e = refl

ratio_le : (m : ℕ) (e : ℤ) → T (le (fin false m e) (single 16)) → m * up e * 100 * 1 ≤ 1600 * (down e * 1)
unfolding le lt eq single of_int round
ratio_le m e t = let l : m * up e * 1 ≤ 16 * down e = at_most (m * up e * 1) (16 * down e) true t in omega arith

of_nan : whole_percent nan ≡ 0
unfolding whole_percent mul to_unsigned
of_nan = refl

of_minus_infinity : whole_percent (inf true) ≡ 0
unfolding whole_percent mul single of_int round to_unsigned
of_minus_infinity = refl

infinity_over : T (le (inf false) (single 16)) → ⊥
unfolding le single of_int round
infinity_over t = t

percent_of_number : (s : Bool) (m : ℕ) (e : ℤ) → whole_percent (fin s m e) ≡ to_unsigned 32 (round binary32 s (m * up e * 100) (down e * 1))
unfolding whole_percent
percent_of_number s m e = ap (to_unsigned 32) (product s m e)

limit : (x : Float) → T (le x (single 16)) → whole_percent x ≤ 1600
limit nan t = le_trans (le_of_eq of_nan) zero-le
limit (inf true) t = le_trans (le_of_eq of_minus_infinity) zero-le
limit (inf false) t = absurd (infinity_over t)
limit (fin true m e) t = le_trans (le_of_eq (percent_of_number true m e ∙ round_minus binary32 (m * up e * 100) (down e * 1) 32)) zero-le
limit (fin false m e) t =
    le_trans (le_of_eq (percent_of_number false m e))
    (cast_le (round binary32 false (m * up e * 100) (down e * 1)) (round_mono binary32 (m * up e * 100) (down e * 1) 1600 1 (mul-pos (down_pos e) (lit< tt)) (lit< tt) (ratio_le m e t)))

pub percent_limit : (x : Float) → T (accepted_ratio x) → whole_percent x ≤ 1600
unfolding accepted_ratio
percent_limit x t = limit x (and_r (le (single 0) x) (le x (single 16)) t)
