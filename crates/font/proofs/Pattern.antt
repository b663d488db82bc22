-- A single's magnitude as a whole number n of its smallest steps, 2 ^ -149, and the bit pattern of n, which is the single's without its sign.
-- A larger n has a larger pattern (`pattern_mono`), and both are 0 together. Assumes nothing.
use mathlib.Core.Path.{◌≡◌, refl, sym, ap, ◌∙◌, subst}
use mathlib.Core.Logic.{inl, inr}
use Prim.Native.Nat.{ℕ, ◌+◌, ◌-◌, ◌*◌, ◌/◌, ◌^◌, ◌≤◌, ◌<◌}
use native.Mathlib.Nat.{mul_assoc, lt_of_mul-lt-mul_right, le-div_iff_mul-le, eq-or-lt_of_le, lt_trans, lt_of_le_of_lt}
use native.Mathlib.Omega.{arith}
use lib.Dec.{lit<}
use lib.Pow.{pow-add, pow_pos, shl_lt, shl-shr}
use lib.Ieee.{size}
use lib.Ieee.Digits.{back, size-lt, size-le, size_reaches}
use lib.Ieee.Fits.{kept-lt}

-- how many of n's binary digits are dropped, where 24 are kept
abbrev pub dropped : ℕ → ℕ
dropped n = size n - 24

abbrev pub kept : ℕ → ℕ
kept n = n / 2 ^ dropped n

-- the bits of n steps, as `to_bits` of `lib.Ieee` writes them
unfoldable pub pattern : ℕ → ℕ
pattern n = dropped n * 2 ^ 23 + kept n

-- n is the magnitude of a single: the digits that are dropped are zeros, and n is at most 2 ^ 128 in steps, which stands for an infinity
pub record Steps (n : ℕ) : Type 0 where
  pub exact : kept n * 2 ^ dropped n ≡ n
  pub under : n ≤ 2 ^ 277

pub kept_under : (n : ℕ) → kept n < 2 ^ 24
kept_under n = kept-lt 24 n

-- where digits are dropped, the leading digit is among those kept
pub lead : (n : ℕ) → 0 < dropped n → 2 ^ 23 ≤ kept n
lead n h =
    let k = dropped n in
    (le-div_iff_mul-le (pow_pos k)).1 (subst (λ (x : ℕ). x ≤ n) (pow-add 2 23 k) (size_reaches n (23 + k) (omega arith)))

dropped_mono : (m n : ℕ) → m < n → dropped m ≤ dropped n
dropped_mono m n h = let z : size m ≤ size n = size-le m (size n) (lt_trans h (size-lt n)) in omega arith

pub pattern_mono : (m n : ℕ) → Steps m → Steps n → m < n → pattern m < pattern n
unfolding pattern
pattern_mono m n M N h = elim (eq-or-lt_of_le (dropped_mono m n h)) [
  | inl e ↦ let q : kept m < kept n = quotients e in omega arith
  | inr l ↦ omega (arith, kept_under m, lead n (omega arith))
]
  where
    quotients : dropped m ≡ dropped n → kept m < kept n
    quotients e =
        lt_of_mul-lt-mul_right (2 ^ dropped n) (subst (λ (x : ℕ). kept m * 2 ^ x < kept n * 2 ^ dropped n) e (rw (M.exact, N.exact) h))

pub pattern_zero : pattern 0 ≡ 0
unfolding pattern size
pattern_zero = refl

pub pattern_under : (n : ℕ) → Steps n → pattern n < 2 ^ 31
unfolding pattern
pattern_under n N = omega (arith, size-le n 278 (lt_of_le_of_lt N.under (lit< tt)), kept_under n)

-- m * 2 ^ j, with 24 digits in m, loses nothing
pub kept_exact : (m j : ℕ) → m < 2 ^ 24 → kept (m * 2 ^ j) * 2 ^ dropped (m * 2 ^ j) ≡ m * 2 ^ j
kept_exact m j h =
    let n = m * 2 ^ j in
    let k = dropped n in
    let le : k ≤ j = omega (arith, size-le n (24 + j) (shl_lt 24 j h)) in
    let cut : m * 2 ^ (j - k) * 2 ^ k ≡ n = mul_assoc m (2 ^ (j - k)) (2 ^ k) ∙ ap (λ (x : ℕ). m * x) (sym (pow-add 2 (j - k) k) ∙ ap (λ (x : ℕ). 2 ^ x) (back j k le)) in
    ap (λ (x : ℕ). x / 2 ^ k * 2 ^ k) (sym cut) ∙ ap (λ (x : ℕ). x * 2 ^ k) (shl-shr (m * 2 ^ (j - k)) k) ∙ cut
