-- A magnitude of 65536ths, as a single: it is finite, and its bits are those that `nearest_bits` works out. Assumes nothing.
use mathlib.Core.Path.{◌≡◌, refl, sym, ap, ◌∙◌, subst}
use mathlib.Core.Bool.{Bool, true, false, not, cond}
use Prim.Native.Nat.{ℕ, zero, suc, ◌+◌, ◌-◌, ◌*◌, ◌/◌, ◌%◌, ◌^◌, ◌≤◌, ◌<◌, compare, Ordering}
use native.Mathlib.Nat.{le_trans, le_of_eq, lt_of_le_of_lt, suc-add, mul_comm, mul_assoc, mul-pos, mul-le-mul_right, mul-div_cancel, add-sub_of_le}
use native.Mathlib.Omega.{arith}
use borrow.Author.Tests.{lt-ltb, le-ltb}
use lib.Dec.{T, lit<}
use lib.Pow.{pow-add, pow_pos, shl_lt, shl_exact}
use lib.Count.{count_leading_zeros, leading_top, leading_le}
use lib.Ieee.{Float, nan, inf, fin, binary32, size, nearest, odd, units, round, neg, is_nan, nan_bits, of_bits, to_bits}
use lib.Ieee.Bits.{of_bits-to_bits, nan_bits_is}
use lib.Ieee.Fits.{round-fits}
use lib.Ieee.Nearest.{closest, closest_same}
use lib.Ieee.Order.{drop, kept}
use lib.Ieee.Scale.{grid, overflow, finite}
use Rattle.font.specs.Single.{fixed_to_single}
use Rattle.font.proofs.Closest.{Cmp, cmp}
use Rattle.font.proofs.Units.{size_is, value_finite, grid_le, round_value, round_bits}

-- ---- no overflow
pub in_range : (m : ℕ) → m < 2 ^ 32 → grid binary32 m 65536 < overflow binary32
in_range m h = lt_of_le_of_lt (grid_le binary32 m 65536 141 (lit< tt) (shl_lt 32 149 h)) (lit< tt)

-- ---- the digits that are dropped, from the leading zeros
size_of : (m j : ℕ) → 2 ^ j ≤ m → m < 2 ^ suc j → size (m * 2 ^ 149 / 65536) ≡ suc (j + 133)
size_of m j h l =
    let e : m * 2 ^ 149 / 65536 ≡ m * 2 ^ 133 = ap (λ (x : ℕ). x / 65536) (sym (mul_assoc m (2 ^ 133) 65536)) ∙ mul-div_cancel (m * 2 ^ 133) {n = 65536} (lit< tt) in
    ap size e
    ∙ size_is (m * 2 ^ 133) (j + 133) (le_trans (le_of_eq (pow-add 2 j 133)) (mul-le-mul_right (2 ^ 133) h)) (subst (λ (x : ℕ). m * 2 ^ 133 < 2 ^ x) (suc-add j 133) (shl_lt (suc j) 133 l))

drop_of : (m z j : ℕ) → z + suc j ≡ 32 → 2 ^ j ≤ m → m < 2 ^ suc j → drop 24 (m * 2 ^ 149) 65536 ≡ 141 - z
drop_of m z j e h l = go (size (m * 2 ^ 149 / 65536)) (size_of m j h l)
  where
    go : (x : ℕ) → x ≡ suc (j + 133) → x - 24 ≡ 141 - z
    go x y = omega arith

-- ---- the digits that are kept
scaled : (m z : ℕ) → z ≤ 141 → m * 2 ^ 149 * 256 ≡ m * 2 ^ z * (65536 * 2 ^ (141 - z))
scaled m z h =
    let y = 2 ^ (141 - z) in
    mul_assoc m (2 ^ 149) 256
    ∙ sym (mul_assoc m (2 ^ 141) 65536)
    ∙ ap (λ (x : ℕ). m * x * 65536) (sym (sym (pow-add 2 z (141 - z)) ∙ ap (λ (x : ℕ). 2 ^ x) (add-sub_of_le h)))
    ∙ ap (λ (x : ℕ). x * 65536) (sym (mul_assoc m (2 ^ z) y))
    ∙ mul_assoc (m * 2 ^ z) y 65536
    ∙ ap (λ (x : ℕ). m * 2 ^ z * x) (mul_comm y 65536)

kept_of : (m z : ℕ) → z ≤ 141 → drop 24 (m * 2 ^ 149) 65536 ≡ 141 - z → kept 24 (m * 2 ^ 149) 65536 ≡ closest (m * 2 ^ z) 256
kept_of m z h e =
    ap (λ (k : ℕ). closest (m * 2 ^ 149) (65536 * 2 ^ k)) e
    ∙ closest_same (m * 2 ^ 149) (65536 * 2 ^ (141 - z)) (m * 2 ^ z) 256 (mul-pos (lit< tt) (pow_pos (141 - z))) (lit< tt) (scaled m z h)

-- the last 8 digits decide: 1 is added where they are more than a half, or a half after an odd number
rounded : (d : ℕ) → closest d 256 ≡ d / 256 + (d % 256 + 127 + d / 256 % 2) / 256
rounded d = go (compare (d % 256 * 2) 256) (cmp (d % 256 * 2) 256)
  where
    go : (o : Ordering) → Cmp o (d % 256 * 2) 256 → nearest (d / 256) o ≡ d / 256 + (d % 256 + 127 + d / 256 % 2) / 256
    go Ordering.lt h = omega arith
    go Ordering.eq h = omega arith
    go Ordering.gt h = omega arith

-- ---- the bits
pub zeros_lt : (m : ℕ) → 0 < m → m < 2 ^ 32 → count_leading_zeros 32 m < 32
zeros_lt m h l = let t = leading_top 32 m h l in omega (arith, t.1)

put_together : (b k q z v t : ℕ) → b ≡ 0 + (k * 0x80_0000 + q) → k ≡ 141 - z → q ≡ v + t → (141 - z) * 0x80_0000 + v + t ≡ b
put_together b k q z v t e f g = omega arith

-- what `nearest_bits` works out, from the magnitude's 32 digits from its highest on
pub bits_of : (m : ℕ) → 0 < m → m < 2 ^ 32 → let z = count_leading_zeros 32 m in let d = m * 2 ^ z % 2 ^ 32 in
    (141 - z) * 0x80_0000 + d / 256 + (d % 256 + 127 + d / 256 % 2) / 256 ≡ to_bits binary32 (round binary32 false m 65536)
bits_of m h l =
    let z = count_leading_zeros 32 m in
    let t = leading_top 32 m h l in
    let e : z + suc t.0 ≡ 32 = t.1 in
    let k = drop_of m z t.0 e t.2 t.3 in
    let x = m * 2 ^ z in
    ap (λ (d : ℕ). (141 - z) * 0x80_0000 + d / 256 + (d % 256 + 127 + d / 256 % 2) / 256) (shl_exact (suc t.0) z 32 t.3 (omega arith))
    ∙ put_together (to_bits binary32 (round binary32 false m 65536)) (drop 24 (m * 2 ^ 149) 65536) (kept 24 (m * 2 ^ 149) 65536) z (x / 256) ((x % 256 + 127 + x / 256 % 2) / 256)
    (round_bits binary32 false m 65536 (lit< tt) (in_range m l))
    k
    (kept_of m z (omega arith) k ∙ rounded x)

pub bits_of_zero : 0 ≡ to_bits binary32 (round binary32 false 0 65536)
unfolding to_bits round
bits_of_zero = refl

-- ---- read as a single, of either sign
pub read_back : (s : Bool) (m : ℕ) → of_bits binary32 (to_bits binary32 (round binary32 s m 65536)) ≡ round binary32 s m 65536
read_back s m = of_bits-to_bits binary32 (round binary32 s m 65536) (round-fits binary32 s m 65536)

finite_no_nan : (x : Float) → T (finite x) → T (not (is_nan x))
unfolding is_nan
finite_no_nan nan t = absurd t
finite_no_nan (inf s) t = absurd t
finite_no_nan (fin s m e) t = tt

is_number : (s : Bool) (m : ℕ) → m < 2 ^ 32 → T (finite (round binary32 s m 65536))
is_number s m h = value_finite (round binary32 s m 65536) s (grid binary32 m 65536) (2 ^ 149) (round_value binary32 s m 65536 (in_range m h))

pub no_nan : (s : Bool) (m : ℕ) → m < 2 ^ 32 → T (not (nan_bits binary32 (to_bits binary32 (round binary32 s m 65536))))
no_nan s m h =
    subst (λ (b : Bool). T (not b)) (sym (nan_bits_is binary32 (to_bits binary32 (round binary32 s m 65536)) ∙ ap is_nan (read_back s m)))
    (finite_no_nan (round binary32 s m 65536) (is_number s m h))

-- ---- either sign of the two's complement
pub fixed_positive : (n : ℕ) → n < 2 ^ 31 → fixed_to_single n ≡ round binary32 false n 65536
unfolding fixed_to_single
fixed_positive n h = simp (lt-ltb n (2 ^ 31) h)

pub fixed_negative : (n : ℕ) → 2 ^ 31 ≤ n → fixed_to_single n ≡ round binary32 true (2 ^ 32 - n) 65536
unfolding fixed_to_single
fixed_negative n h = simp (le-ltb n (2 ^ 31) h)

negated_odd : (d q k l : ℕ) → neg (odd d false q k l) ≡ odd d true q k l
unfolding neg odd
negated_odd d zero k l = refl
negated_odd d (suc q) k l = refl

pub negated : (m : ℕ) → neg (round binary32 false m 65536) ≡ round binary32 true m 65536
unfolding round neg units
negated m = go _ _ _
  where
    go : (b : Bool) (q k : ℕ) → neg (cond b (odd 25 false q k 149) (inf false)) ≡ cond b (odd 25 true q k 149) (inf true)
    go true q k = negated_odd 25 q k 149
    go false q k = refl

pub ruleset of_magnitude = (zeros_lt, bits_of, bits_of_zero, leading_le)

pub ruleset of_sign = (no_nan, read_back, negated, fixed_positive, fixed_negative)
