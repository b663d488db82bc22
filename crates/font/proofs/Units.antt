-- Singles counted in units of the format's smallest value: each finite value is a whole number of units m * 2 ^ j, with an m of no more digits than the format keeps.
-- What `round` gives is `grid` units, and its bit pattern is `drop` times the weight of the exponent's field, and `kept`. Assumes nothing.
use mathlib.Core.Path.{◌≡◌, refl, sym, ap, ◌∙◌, subst}
use mathlib.Core.Logic.{◌⊎◌, inl, inr, ⊎_elim}
use mathlib.Core.Bool.{Bool, ◌&&◌, cond}
use Prim.Native.Nat.{ℕ, zero, suc, ◌+◌, ◌-◌, ◌*◌, ◌/◌, ◌%◌, ◌^◌, ◌≤◌, ◌<◌}
use native.Mathlib.Nat.{le_refl, le_trans, le_of_eq, lt_of_lt_of_le, lt_of_not-le, not-le_of_lt, eq-or-lt_of_le, eq-zero-or-pos, le_antisymm, add_assoc, zero-mul, mul_assoc, mul-le-mul, mul-le-mul_right, mul-div_cancel, pow-suc, pow-succ', suc-mul, div-lt_iff_lt-mul}
use native.Mathlib.Omega.{arith}
use lib.Dec.{T, ltb, leb, eqb, ltb→lt, leb→le}
use lib.Pow.{pow-add, pow_pos, pow_mono, pow-lt, shl_lt}
use lib.Ieee.{Float, nan, inf, fin, Format, prec, emax, low, up, down, size, round, fits, hid, top, to_bits}
use lib.Ieee.Digits.{size-lt, size-le}
use lib.Ieee.Fits.{two, two-le_pos, round_is, down_pos, and_l, and_r}
use lib.Ieee.Exact.{HasValue, units_val}
use lib.Ieee.Order.{drop, kept}
use lib.Ieee.Scale.{grid, overflow, finite}
use lib.Ieee.Positive.{num, den}
use Rattle.font.proofs.Closest.{kept_ge, kept_le}
use Rattle.font.proofs.Scaled.{in_units}

-- ---- a value that the format holds, in units
-- y is m * 2 ^ j units, and m has no more digits than the format keeps
abbrev pub OnGrid : Format → Float → Type 0
OnGrid f y = (m : ℕ) × (j : ℕ) × (m < 2 ^ prec f) × (num y * 2 ^ low f ≡ m * 2 ^ j * den y)

pub on_grid : (f : Format) (y : Float) → T (fits f y) → T (finite y) → OnGrid f y
unfolding fits
on_grid f nan h t = absurd t
on_grid f (inf s) h t = absurd t
on_grid f (fin s zero e) h t =
    (0, 0, pow_pos (prec f), ap (λ (x : ℕ). x * 2 ^ low f) (zero-mul (up e)) ∙ zero-mul (2 ^ low f) ∙ sym (zero-mul (down e)))
on_grid f (fin s (suc m) e) h t =
    let a = eqb (suc m % 2) 1 in
    let b = ltb (suc m) (2 ^ prec f) in
    let c = leb (down e) (2 ^ low f) in
    let d = ltb (suc m * up e) (2 ^ suc (emax f) * down e) in
    let abc = and_l (a && b && c) d h in
    let u = in_units (low f) (suc m) e (leb→le (down e) (2 ^ low f) (and_r (a && b) c abc)) in
    (suc m, u.0, ltb→lt (suc m) (2 ^ prec f) (and_r a b (and_l (a && b) c abc)), u.1)

-- a value with a size in units is finite
pub value_finite : (x : Float) (s : Bool) (a c : ℕ) → HasValue x s a c → T (finite x)
value_finite nan s a c h = absurd h
value_finite (inf t) s a c h = absurd h
value_finite (fin t m e) s a c h = tt

-- ---- a number of units as a bit pattern of p digits, without its sign
abbrev pattern : ℕ → ℕ → ℕ
pattern p w = (size w - p) * 2 ^ (p - 1) + w / 2 ^ (size w - p)

-- the pattern turns on the sign and the number of units alone
pub bits_of_value : (f : Format) (x : Float) (s : Bool) (w : ℕ) → HasValue x s w (2 ^ low f) → to_bits f x ≡ cond s (top f) 0 + pattern (prec f) w
unfolding to_bits
bits_of_value f nan s w h = absurd h
bits_of_value f (inf t) s w h = absurd h
bits_of_value f (fin t m e) s w h =
    let p = prec f in
    ap (λ (b : Bool). cond b (top f) 0 + (size (m * up e * 2 ^ low f / down e) - p) * hid f + m * up e * 2 ^ low f / down e / 2 ^ (size (m * up e * 2 ^ low f / down e) - p)) h.0
    ∙ ap (λ (n : ℕ). cond s (top f) 0 + (size n - p) * hid f + n / 2 ^ (size n - p)) (ap (λ (n : ℕ). n / down e) h.1 ∙ mul-div_cancel w (down_pos e))
    ∙ add_assoc (cond s (top f) 0) ((size w - p) * hid f) (w / 2 ^ (size w - p))

size_gt : (n j : ℕ) → 2 ^ j ≤ n → j < size n
size_gt n j h = lt_of_not-le (λ (g : size n ≤ j). not-le_of_lt (lt_of_lt_of_le (size-lt n) (pow_mono g)) h)

pub size_is : (n j : ℕ) → 2 ^ j ≤ n → n < 2 ^ suc j → size n ≡ suc j
size_is n j h l = le_antisymm (size-le n (suc j) l) (size_gt n j h)

pattern_at : (p w k q : ℕ) → size w - p ≡ k → w ≡ q * 2 ^ k → pattern p w ≡ k * 2 ^ (p - 1) + q
pattern_at p w k q e h =
    ap (λ (z : ℕ). z * 2 ^ (p - 1) + w / 2 ^ z) e ∙ ap (λ (z : ℕ). k * 2 ^ (p - 1) + z / 2 ^ k) h ∙ ap (λ (z : ℕ). k * 2 ^ (p - 1) + z) (mul-div_cancel q (pow_pos k))

dropped : (z p k : ℕ) → 0 < p → z ≤ p + k → (k ≡ 0) ⊎ (p - 1 + k < z) → z - p ≡ k
dropped z p k P h (inl e) = omega arith
dropped z p k P h (inr l) = omega arith

next : (z p k : ℕ) → z ≡ suc (p + k) → z - p ≡ suc k
next z p k h = omega arith

carry : (a b h q : ℕ) → a ≡ b + h → q ≡ h * 2 → a + h ≡ b + q
carry a b h q x y = omega arith

twice : (p : ℕ) → 0 < p → 2 ^ p ≡ 2 ^ (p - 1) * 2
twice p h = ap (λ (x : ℕ). 2 ^ x) (sym (go h)) ∙ pow-suc 2 (p - 1)
  where
    go : 0 < p → suc (p - 1) ≡ p
    go h = omega arith

-- q with k zeros after it, where q has p digits, or fewer if k is 0, or is the next power of two
pattern_is : (p q k : ℕ) → 0 < p → q ≤ 2 ^ p → (0 < k → 2 ^ (p - 1) ≤ q) → pattern p (q * 2 ^ k) ≡ k * 2 ^ (p - 1) + q
pattern_is p q k P h g = go (eq-or-lt_of_le h)
  where
    go : (q ≡ 2 ^ p) ⊎ (q < 2 ^ p) → pattern p (q * 2 ^ k) ≡ k * 2 ^ (p - 1) + q
    go (inl e) =
        let h = 2 ^ (p - 1) in
        let w : q * 2 ^ k ≡ h * 2 ^ suc k = ap (λ (x : ℕ). x * 2 ^ k) (e ∙ twice p P) ∙ mul_assoc h 2 (2 ^ k) ∙ ap (λ (x : ℕ). h * x) (sym (pow-succ' 2 k)) in
        let z : q * 2 ^ k ≡ 2 ^ (p + k) = ap (λ (x : ℕ). x * 2 ^ k) e ∙ sym (pow-add 2 p k) in
        pattern_at p (q * 2 ^ k) (suc k) h (next (size (q * 2 ^ k)) p k (ap size z ∙ size_is (2 ^ (p + k)) (p + k) (le_refl (2 ^ (p + k))) (pow-lt (le_refl (suc (p + k)))))) w
        ∙ carry (suc k * h) (k * h) h q (suc-mul k h) (e ∙ twice p P)
    go (inr l) =
        pattern_at p (q * 2 ^ k) k q
        (dropped (size (q * 2 ^ k)) p k P (size-le (q * 2 ^ k) (p + k) (shl_lt p k l))
        (⊎_elim (λ e. inl e) (λ K. inr (size_gt (q * 2 ^ k) (p - 1 + k) (le_trans (le_of_eq (pow-add 2 (p - 1) k)) (mul-le-mul_right (2 ^ k) (g K))))) (eq-zero-or-pos k)))
        refl

-- ---- what `round` gives, in units and in bits
pub round_value : (f : Format) (s : Bool) (a c : ℕ) → grid f a c < overflow f → HasValue (round f s a c) s (grid f a c) (2 ^ low f)
round_value f s a c h = subst (λ (z : Float). HasValue z s (grid f a c) (2 ^ low f)) (sym (round_is f s a c)) (units_val f s (kept (prec f) (a * 2 ^ low f) c) (drop (prec f) (a * 2 ^ low f) c) h)

spare : (z p i : ℕ) → z ≤ p + i → z - p ≤ i
spare z p i h = omega arith

-- a fraction below 2 ^ (prec + i) units rounds to no more than that
pub grid_le : (f : Format) (a c i : ℕ) → 0 < c → a * 2 ^ low f < 2 ^ (prec f + i) * c → grid f a c ≤ 2 ^ (prec f + i)
grid_le f a c i C h =
    let p = prec f in
    let n = a * 2 ^ low f in
    le_trans (mul-le-mul (kept_le p n c) (pow_mono (spare (size (n / c)) p i (size-le (n / c) (p + i) ((div-lt_iff_lt-mul C).1 h))))) (le_of_eq (sym (pow-add 2 p i)))

pub round_bits : (f : Format) (s : Bool) (a c : ℕ) → 0 < c → grid f a c < overflow f
    → to_bits f (round f s a c) ≡ cond s (top f) 0 + (drop (prec f) (a * 2 ^ low f) c * hid f + kept (prec f) (a * 2 ^ low f) c)
round_bits f s a c C h =
    let p = prec f in
    let n = a * 2 ^ low f in
    bits_of_value f (round f s a c) s (grid f a c) (round_value f s a c h)
    ∙ ap (λ (z : ℕ). cond s (top f) 0 + z) (pattern_is p (kept p n c) (drop p n c) (two-le_pos p (two f)) (kept_le p n c) (kept_ge p n c (two-le_pos p (two f)) C))
