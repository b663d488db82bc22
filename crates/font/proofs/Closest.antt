-- A fraction n / u rounded to the nearest whole number, a tie to the even one: no whole number is nearer, and one that is as near leaves the rounded one even.
-- Then the same where a format keeps p digits: no number m * 2 ^ j with an m of p digits is nearer. On whole numbers alone. Assumes nothing.
use mathlib.Core.Path.{◌≡◌, refl, sym, ap, ◌∙◌, subst, subst₂}
use mathlib.Core.Logic.{◌⊎◌, inl, inr, ⊎_elim}
use mathlib.Core.Bool.{Bool, true, false, not}
use Prim.Native.Nat.{ℕ, zero, suc, ◌+◌, ◌-◌, ◌*◌, ◌/◌, ◌%◌, ◌^◌, ◌≤◌, ◌<◌, zero-le, compare, Ordering}
use native.Mathlib.Nat.{suc-mul, add-mul, one-mul, add-zero, mul_comm, mul_assoc, mul-pos, mod-lt, div-add-mod', mul-le-mul_right, mul-lt-mul_of_pos_right, le-div_iff_mul-le, le_trans, le_of_eq, lt_of_lt_of_le, lt_of_le_of_lt, div-div-eq-div-mul}
use native.Mathlib.Omega.{arith}
use lib.Dec.{T, ltb, ltb→lt, nltb→le, is_le, compare_is_eq, eqb, leb→le, nleb→lt, eqb→eq, eqb_refl}
use lib.Arith.{lt_of_le-ne}
use lib.Pow.{pow-add, pow_pos, pow_mono, shl_lt}
use lib.Ieee.{size, nearest}
use lib.Ieee.Digits.{back, size_reaches}
use lib.Ieee.Fits.{nearest-le, kept-lt}
use lib.Ieee.Nearest.{closest, nearest-ge}
use lib.Ieee.Order.{drop, kept}
use Rattle.font.specs.Nearest.{apart}

-- ---- what `compare` says
abbrev pub Cmp : Ordering → ℕ → ℕ → Type 0
Cmp Ordering.lt a b = a < b
Cmp Ordering.eq a b = a ≡ b
Cmp Ordering.gt a b = b < a

pub cmp : (a b : ℕ) → Cmp (compare a b) a b
cmp a b = go (compare a b) (leb→le a b) (nleb→lt a b) (eqb→eq a b) (λ (e : a ≡ b). subst (λ (x : ℕ). T (eqb a x)) e (eqb_refl a))
  where
    go : (o : Ordering) → (T (is_le o) → a ≤ b) → (T (not (is_le o)) → b < a) → (T (compare_is_eq o) → a ≡ b) → (a ≡ b → T (compare_is_eq o)) → Cmp o a b
    go Ordering.lt h k e n = lt_of_le-ne (h tt) n
    go Ordering.eq h k e n = e tt
    go Ordering.gt h k e n = k tt

-- ---- the rounded number is at most half a step away, and even where it is just that
abbrev Half : ℕ → ℕ → ℕ → Type 0
Half n u q = (2 * apart (q * u) n ≤ u) × (2 * apart (q * u) n ≡ u → q % 2 ≡ 0)

tie : (w u r n b : ℕ) → w % 2 ≡ b → r * 2 ≡ u → w * u + r ≡ n → Half n u (w + b)
tie w u r n zero h c e = let x : (w + 0) * u ≡ w * u = ap (λ (z : ℕ). z * u) (add-zero w) in (omega arith, λ t. omega arith)
tie w u r n (suc zero) h c e = let x : (w + 1) * u ≡ w * u + u = add-mul w 1 u ∙ ap (λ (z : ℕ). w * u + z) (one-mul u) in (omega arith, λ t. omega arith)
tie w u r n (suc (suc b)) h c e = absurd (no h)
  where
    no : w % 2 ≡ suc (suc b) → ⊥
    no h = omega arith

half_away : (w u r n : ℕ) (o : Ordering) → Cmp o (r * 2) u → r < u → w * u + r ≡ n → Half n u (nearest w o)
half_away w u r n Ordering.lt c l e = (omega arith, λ h. omega arith)
half_away w u r n Ordering.eq c l e = tie w u r n (w % 2) refl c e
half_away w u r n Ordering.gt c l e = let x = suc-mul w u in (omega arith, λ h. omega arith)

closest_half : (n u : ℕ) → 0 < u → Half n u (closest n u)
closest_half n u U = half_away (n / u) u (n % u) n (compare (n % u * 2) u) (cmp (n % u * 2) u) (mod-lt n U) (div-add-mod' n u)

-- ---- so no whole number t is nearer
abbrev Nearer : ℕ → ℕ → ℕ → ℕ → Type 0
Nearer n u q t = (apart (q * u) n ≤ apart (t * u) n) × (apart (q * u) n ≡ apart (t * u) n → (t ≡ q) ⊎ (q % 2 ≡ 0))

-- two whole numbers lie a step apart at least
step : (u t q : ℕ) → t < q → t * u + u ≤ q * u
step u t q h = le_trans (le_of_eq (sym (suc-mul t u))) (mul-le-mul_right u h)

none_nearer : (n u q t : ℕ) → Half n u q → (o : Ordering) → Cmp o t q → Nearer n u q t
none_nearer n u q t h Ordering.lt c = let s = step u t q c in (omega arith, λ e. inr (h.1 (omega arith)))
none_nearer n u q t h Ordering.eq c = (le_of_eq (ap (λ (x : ℕ). apart (x * u) n) (sym c)), λ e. inl c)
none_nearer n u q t h Ordering.gt c = let s = step u q t c in (omega arith, λ e. inr (h.1 (omega arith)))

closest_nearer : (n u t : ℕ) → 0 < u → Nearer n u (closest n u) t
closest_nearer n u t U = none_nearer n u (closest n u) t (closest_half n u U) (compare t (closest n u)) (cmp t (closest n u))

-- ---- in a format that keeps p digits, w times d against n, where the rounded number is q * 2 ^ k
abbrev pub Best : ℕ → ℕ → ℕ → ℕ → ℕ → Type 0
Best n d q k w = (apart (q * 2 ^ k * d) n ≤ apart (w * d) n) × (apart (q * 2 ^ k * d) n ≡ apart (w * d) n → (w ≡ q * 2 ^ k) ⊎ (q % 2 ≡ 0))

shift : (x k d : ℕ) → x * (d * 2 ^ k) ≡ x * 2 ^ k * d
shift x k d = ap (λ (z : ℕ). x * z) (mul_comm d (2 ^ k)) ∙ sym (mul_assoc x (2 ^ k) d)

-- a multiple of 2 ^ k
best_multiple : (n d k t : ℕ) → 0 < d → Best n d (closest n (d * 2 ^ k)) k (t * 2 ^ k)
best_multiple n d k t D =
    let q = closest n (d * 2 ^ k) in
    let h = closest_nearer n (d * 2 ^ k) t (mul-pos D (pow_pos k)) in
    let a = shift q k d in
    let b = shift t k d in (
      subst₂ (λ (x y : ℕ). apart x n ≤ apart y n) a b h.0,
      λ e. ⊎_elim (λ s. inl (ap (λ (x : ℕ). x * 2 ^ k) s)) (λ s. inr s) (h.1 (subst₂ (λ (x y : ℕ). apart x n ≡ apart y n) (sym a) (sym b) e)),
    )

-- a number below a multiple of 2 ^ k that is itself not above n / d
best_below : (n d q k w b : ℕ) → 0 < d → Best n d q k b → w < b → b * d ≤ n → Best n d q k w
best_below n d q k w b D h l g = let s = mul-lt-mul_of_pos_right l D in let i = h.0 in (omega arith, λ e. absurd (no e))
  where
    no : apart (q * 2 ^ k * d) n ≡ apart (w * d) n → ⊥
    no e = let s = mul-lt-mul_of_pos_right l D in let i = h.0 in omega arith

-- ---- a number m * 2 ^ j with an m of p digits
more : (p j k : ℕ) → 0 < p → j < k → p + j ≤ p - 1 + k
more p j k P h = omega arith

all_in_use : (z p : ℕ) → 0 < p → 0 < z - p → p - 1 + (z - p) < z
all_in_use z p P h = omega arith

-- where digits are dropped, n / d has p digits more than those
pub leading : (p n d : ℕ) → 0 < p → 0 < d → 0 < drop p n d → 2 ^ (p - 1) * 2 ^ drop p n d * d ≤ n
leading p n d P D K =
    (le-div_iff_mul-le D).0
    (le_trans (le_of_eq (sym (pow-add 2 (p - 1) (drop p n d)))) (size_reaches (n / d) (p - 1 + drop p n d) (all_in_use (size (n / d)) p P K)))

pub best : (p n d m j : ℕ) → 0 < p → 0 < d → m < 2 ^ p → Best n d (kept p n d) (drop p n d) (m * 2 ^ j)
best p n d m j P D h = go (ltb j (drop p n d)) (ltb→lt j (drop p n d)) (nltb→le j (drop p n d))
  where
    go : (b : Bool) → (T b → j < drop p n d) → (T (not b) → drop p n d ≤ j) → Best n d (kept p n d) (drop p n d) (m * 2 ^ j)
    go true x y =
        let k = drop p n d in
        best_below n d (kept p n d) k (m * 2 ^ j) (2 ^ (p - 1) * 2 ^ k) D (best_multiple n d k (2 ^ (p - 1)) D)
        (lt_of_lt_of_le (shl_lt p j h) (le_trans (pow_mono (more p j k P (x tt))) (le_of_eq (pow-add 2 (p - 1) k))))
        (leading p n d P D (lt_of_le_of_lt zero-le (x tt)))
    go false x y =
        let k = drop p n d in
        subst (λ (w : ℕ). Best n d (kept p n d) k w) (mul_assoc m (2 ^ (j - k)) (2 ^ k) ∙ ap (λ (z : ℕ). m * z) (sym (pow-add 2 (j - k) k) ∙ ap (λ (z : ℕ). 2 ^ z) (back j k (y tt))))
        (best_multiple n d k (m * 2 ^ (j - k)) D)

-- ---- the rounded number itself has p digits, or is the next power of two
pub kept_ge : (p n d : ℕ) → 0 < p → 0 < d → 0 < drop p n d → 2 ^ (p - 1) ≤ kept p n d
kept_ge p n d P D K =
    let k = drop p n d in
    let u = d * 2 ^ k in
    le_trans ((le-div_iff_mul-le (mul-pos D (pow_pos k))).1 (le_trans (le_of_eq (shift (2 ^ (p - 1)) k d)) (leading p n d P D K))) (nearest-ge (n / u) (compare (n % u * 2) u))

pub kept_le : (p n d : ℕ) → kept p n d ≤ 2 ^ p
kept_le p n d =
    let k = drop p n d in
    let u = d * 2 ^ k in
    le_trans (nearest-le (n / u) (compare (n % u * 2) u)) (subst (λ (x : ℕ). x < 2 ^ p) (div-div-eq-div-mul n d (2 ^ k)) (kept-lt p (n / d)))
