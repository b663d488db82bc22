-- What a single is made of: its sign, and its magnitude in steps of 2 ^ -149 (`Pattern.antt`). Its bits, its whole part and its order follow from the two. Assumes nothing.
use mathlib.Core.Path.{◌≡◌, refl, sym, subst}
use mathlib.Core.Bool.{Bool, not, ◌&&◌, cond}
use Prim.Native.Nat.{ℕ, zero, suc, ◌+◌, ◌*◌, ◌/◌, ◌%◌, ◌^◌, ◌≤◌, ◌<◌}
use native.Mathlib.Nat.{mul_right_comm, zero-mul, add_assoc, mul-pos, mul-le-mul_right, mul-lt-mul_of_pos_right, lt_of_mul-lt-mul_right, le_of_lt, le_of_eq, le_trans, le_refl, div-eq_of_eq-mul_left, one-mul}
use lib.Dec.{T, eqb, leb, ltb, lit<, eqb→eq, ltb→lt, leb→le}
use lib.IntN.{ℤ}
use lib.Pow.{pow_pos}
use lib.Ieee.{Float, nan, inf, fin, binary32, up, down, fits, is_nan, to_bits, size}
use lib.Ieee.Fits.{and_l, and_r, up_pos, down_pos}
use Rattle.font.specs.Nearest.{negative}
use Rattle.font.proofs.Scaled.{in_units}
use Rattle.font.proofs.Pattern.{dropped, kept, pattern, Steps, kept_exact}

unfoldable pub steps : Float → ℕ
steps nan = 0
steps (inf s) = 2 ^ 277
steps (fin s m e) = m * up e * 2 ^ 149 / down e

-- the bits are the sign's and the magnitude's
pub bits_of : (x : Float) → T (not (is_nan x)) → to_bits binary32 x ≡ cond (negative x) (2 ^ 31) 0 + pattern (steps x)
unfolding is_nan to_bits steps pattern size
bits_of nan h = absurd h
bits_of (inf s) h = refl
bits_of (fin s m e) h =
    let n = m * up e * 2 ^ 149 / down e in
    add_assoc (cond s (2 ^ 31) 0) (dropped n * 2 ^ 23) (kept n)

-- ---- a number that the format holds is a whole number of steps

-- what `fits` says of a significand and an exponent
record Bounds (m : ℕ) (e : ℤ) : Type 0 where
  digits : m < 2 ^ 24
  low : down e ≤ 2 ^ 149
  high : m * up e < 2 ^ 128 * down e

bounds : (s : Bool) (m : ℕ) (e : ℤ) → T (fits binary32 (fin s m e)) → Bounds m e
unfolding fits
bounds s zero e h =
    let one : down e ≤ 1 = subst (λ (x : ℕ). down e ≤ x) (eqb→eq (up e * down e) 1 h) (le_trans (le_of_eq (sym (one-mul (down e)))) (mul-le-mul_right (down e) (up_pos e))) in
    record {
      digits = lit< tt;
      low = le_trans one (pow_pos 149);
      high = subst (λ (x : ℕ). x < 2 ^ 128 * down e) (sym (zero-mul (up e))) (mul-pos (pow_pos 128) (down_pos e));
    }
bounds s (suc m) e h =
    let A = eqb (suc m % 2) 1 in
    let B = ltb (suc m) (2 ^ 24) in
    let C = leb (down e) (2 ^ 149) in
    let D = ltb (suc m * up e) (2 ^ 128 * down e) in
    record {
      digits = ltb→lt (suc m) (2 ^ 24) (and_r A B (and_l (A && B) C (and_l (A && B && C) D h)));
      low = leb→le (down e) (2 ^ 149) (and_r (A && B) C (and_l (A && B && C) D h));
      high = ltb→lt (suc m * up e) (2 ^ 128 * down e) (and_r (A && B && C) D h);
    }

under : (l t a d n : ℕ) → 0 < l → a < t * d → a * l ≡ n * d → n < t * l
under l t a d n L h e =
    lt_of_mul-lt-mul_right d (subst (λ (x : ℕ). x < t * l * d) e (subst (λ (x : ℕ). a * l < x) (mul_right_comm t d l) (mul-lt-mul_of_pos_right h L)))

pub record Value (m : ℕ) (e : ℤ) (n : ℕ) : Type 0 where
  pub scale : m * up e * 2 ^ 149 ≡ n * down e
  pub exact : kept n * 2 ^ dropped n ≡ n
  pub finite : n < 2 ^ 277

pub value_of : (s : Bool) (m : ℕ) (e : ℤ) → T (fits binary32 (fin s m e)) → Value m e (steps (fin s m e))
unfolding steps
value_of s m e h =
    let b = bounds s m e h in
    let p = in_units 149 m e b.low in
    let n = m * 2 ^ p.0 in
    let e' : n ≡ steps (fin s m e) = sym (div-eq_of_eq-mul_left (down_pos e) p.1) in
    subst (Value m e) e'
    (record {
      scale = p.1;
      exact = kept_exact m p.0 b.digits;
      finite = under (2 ^ 149) (2 ^ 128) (m * up e) (down e) n (pow_pos 149) b.high p.1;
    })

pub steps_of : (x : Float) → T (not (is_nan x)) → T (fits binary32 x) → Steps (steps x)
unfolding is_nan steps size
steps_of nan h f = absurd h
steps_of (inf s) h f = record { exact = refl; under = le_refl (2 ^ 277) }
steps_of (fin s m e) h f = let v = value_of s m e f in record { exact = v.exact; under = le_of_lt v.finite }
