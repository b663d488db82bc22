-- "A signed 16.16 number n becomes the single nearest to n/65536, ties to even significand": `fixed_to_single` does so for every n of 32 bits (`fixed_nearest`).
-- Distances are taken over into units of the format's smallest value, where `proofs/Closest.antt` has the law on whole numbers. Assumes nothing.
use mathlib.Core.Path.{◌≡◌, refl, sym, ap, ap₂, ◌∙◌}
use mathlib.Core.Logic.{◌⊎◌, inl, inr, ⊎_elim}
use mathlib.Core.Bool.{Bool, true, false, not, cond, beq}
use Prim.Native.Nat.{ℕ, ◌+◌, ◌-◌, ◌*◌, ◌%◌, ◌^◌, ◌≤◌, ◌<◌}
use native.Mathlib.Nat.{le_trans, le_of_eq, le_antisymm, mul_comm, mul-sub, add-mul, zero-mul, mul_right_comm, mul-le-mul_right, le_of_mul-le-mul_right, eq_of_mul-eq-mul_right}
use native.Mathlib.Omega.{arith}
use borrow.Author.Tests.{lt-leb, le-leb}
use lib.Dec.{T, ltb, ltb→lt, nltb→le, lit<}
use lib.Pow.{pow_pos}
use lib.Ieee.{Float, nan, inf, fin, Format, binary32, prec, low, round, fits, of_bits}
use lib.Ieee.Bits.{of_bits-to_bits}
use lib.Ieee.Exact.{HasValue}
use lib.Ieee.Fits.{two, two-le_pos, round-fits}
use lib.Ieee.Order.{drop, kept, transfer}
use lib.Ieee.Scale.{grid, overflow, finite}
use lib.Ieee.Positive.{num, den, den_pos}
use Rattle.font.specs.Single.{fixed_to_single}
use Rattle.font.specs.Nearest.{negative, apart, gap, distance, Nearest, NearestFixed}
use Rattle.font.proofs.Closest.{Best, best}
use Rattle.font.proofs.Units.{on_grid, value_finite, bits_of_value, round_value, round_bits}
use Rattle.font.proofs.Fixed.{in_range, fixed_positive, fixed_negative}

-- ---- distances
sub_mul : (a b l : ℕ) → (a - b) * l ≡ a * l - b * l
sub_mul a b l = mul_comm (a - b) l ∙ mul-sub l a b ∙ ap₂ (λ (x y : ℕ). x - y) (mul_comm l a) (mul_comm l b)

gap_mul : (t : Bool) (a : ℕ) (s : Bool) (b l : ℕ) → gap t a s b * l ≡ gap t (a * l) s (b * l)
gap_mul t a s b l = go (beq t s)
  where
    go : (x : Bool) → cond x (apart a b) (a + b) * l ≡ cond x (apart (a * l) (b * l)) (a * l + b * l)
    go true = add-mul (a - b) (b - a) l ∙ ap₂ (λ (x y : ℕ). x + y) (sub_mul a b l) (sub_mul b a l)
    go false = add-mul a b l

gap_same : (s : Bool) (a b : ℕ) → gap s a s b ≡ apart a b
gap_same true a b = refl
gap_same false a b = refl

-- the distance of a value of w units from ±a / c
distance_units : (s : Bool) (a c w l : ℕ) (y : Float) → num y * l ≡ w * den y → distance s a c y * l ≡ gap (negative y) (w * c) s (a * l) * den y
distance_units s a c w l y h =
    let t = negative y in
    let d = den y in
    gap_mul t (num y * c) s (a * d) l
    ∙ ap₂ (λ (x z : ℕ). gap t x s z) (mul_right_comm (num y) c l ∙ ap (λ (x : ℕ). x * c) h ∙ mul_right_comm w d c) (mul_right_comm a d l)
    ∙ sym (gap_mul t (w * c) s (a * l) d)

-- A value of the other sign is further from n than zero is. g is the distance of the nearest value, and u is w * c.
no_nearer : (t s : Bool) (g u n : ℕ) → g ≤ apart u n → g ≤ n → g ≤ gap t u s n
no_nearer true true g u n h k = h
no_nearer true false g u n h k = omega arith
no_nearer false true g u n h k = omega arith
no_nearer false false g u n h k = h

as_near : (t s : Bool) (g u n : ℕ) → g ≤ n → g ≡ gap t u s n → ((t ≡ s) × (g ≡ apart u n)) ⊎ (g ≡ n)
as_near true true g u n k e = inl (refl, e)
as_near true false g u n k e = inr (omega arith)
as_near false true g u n k e = inr (omega arith)
as_near false false g u n k e = inl (refl, e)

-- ---- a finite value by its sign and its units
value→units : (x : Float) (s : Bool) (w l : ℕ) → HasValue x s w l → (negative x ≡ s) × (num x * l ≡ w * den x)
value→units nan s w l h = absurd h
value→units (inf t) s w l h = absurd h
value→units (fin t m e) s w l h = h

units→value : (x : Float) (s : Bool) (w l : ℕ) → T (finite x) → negative x ≡ s → num x * l ≡ w * den x → HasValue x s w l
units→value nan s w l t h k = absurd t
units→value (inf u) s w l t h k = absurd t
units→value (fin u m e) s w l t h k = (h, k)

-- a sign and a number of units have one value
one_value : (f : Format) (x y : Float) (s : Bool) (w : ℕ) → T (fits f x) → T (fits f y) → HasValue x s w (2 ^ low f) → HasValue y s w (2 ^ low f) → x ≡ y
one_value f x y s w p q h k =
    sym (of_bits-to_bits f x p) ∙ ap (of_bits f) (bits_of_value f x s w h ∙ sym (bits_of_value f y s w k)) ∙ of_bits-to_bits f y q

-- ---- `round` gives the nearest value, in any format, unless it overflows
zero_even : (q p : ℕ) → 0 < p → 0 ≡ q * p → q % 2 ≡ 0
zero_even q p h e = ap (λ (x : ℕ). x % 2) (eq_of_mul-eq-mul_right p h q 0 (sym e ∙ sym (zero-mul p)))

from_zero : (c n : ℕ) → apart (0 * c) n ≡ n
from_zero c n = let z = zero-mul c in omega arith

module _ (f : Format) (s : Bool) (a c : ℕ) (C : 0 < c) (fine : grid f a c < overflow f) where
  value : HasValue (round f s a c) s (grid f a c) (2 ^ low f)
  value = round_value f s a c fine

  own_distance : distance s a c (round f s a c) * 2 ^ low f ≡ apart (grid f a c * c) (a * 2 ^ low f) * den (round f s a c)
  own_distance =
      let r = round f s a c in
      let w = grid f a c in
      let l = 2 ^ low f in
      let v = value→units r s w l value in
      distance_units s a c w l r v.1 ∙ ap (λ (x : ℕ). x * den r) (ap (λ (t : Bool). gap t (w * c) s (a * l)) v.0 ∙ gap_same s (w * c) (a * l))

  best_at : (m j : ℕ) → m < 2 ^ prec f → Best (a * 2 ^ low f) c (kept (prec f) (a * 2 ^ low f) c) (drop (prec f) (a * 2 ^ low f) c) (m * 2 ^ j)
  best_at m j h = best (prec f) (a * 2 ^ low f) c m j (two-le_pos (prec f) (two f)) C h

  -- from zero, which is a value too, the distance is n
  to_zero : apart (grid f a c * c) (a * 2 ^ low f) ≤ a * 2 ^ low f
  to_zero = le_trans (best_at 0 0 (pow_pos (prec f))).0 (le_of_eq (from_zero c (a * 2 ^ low f)))

  pub round_no_nearer : (y : Float) → T (fits f y) → T (finite y) → distance s a c (round f s a c) * den y ≤ distance s a c y * den (round f s a c)
  round_no_nearer y p t =
      let r = round f s a c in
      let l = 2 ^ low f in
      let n = a * l in
      let g = on_grid f y p t in
      let w = g.0 * 2 ^ g.1 in
      let u = apart (grid f a c * c) n in
      transfer (distance s a c r) (distance s a c y) (den r) (den y) u (gap (negative y) (w * c) s n) l l (pow_pos (low f)) (pow_pos (low f)) own_distance (distance_units s a c w l y g.3)
      (mul-le-mul_right l (no_nearer (negative y) s u (w * c) n (best_at g.0 g.1 g.2).0 to_zero))

  pub round_tie : (y : Float) → T (fits f y) → T (finite y) → (y ≡ round f s a c → ⊥) → distance s a c (round f s a c) * den y ≡ distance s a c y * den (round f s a c)
      → kept (prec f) (a * 2 ^ low f) c % 2 ≡ 0
  round_tie y p t other e =
      let r = round f s a c in
      let l = 2 ^ low f in
      let L = pow_pos (low f) in
      let n = a * l in
      let g = on_grid f y p t in
      let w = g.0 * 2 ^ g.1 in
      let u = apart (grid f a c * c) n in
      let v = gap (negative y) (w * c) s n in
      let d = distance_units s a c w l y g.3 in
      let same : u ≡ v = le_antisymm
      (le_of_mul-le-mul_right (transfer u v l l (distance s a c r) (distance s a c y) (den r) (den y) (den_pos r) (den_pos y) (sym own_distance) (sym d) (le_of_eq e)) L)
      (le_of_mul-le-mul_right (transfer v u l l (distance s a c y) (distance s a c r) (den y) (den r) (den_pos y) (den_pos r) (sym d) (sym own_distance) (le_of_eq (sym e))) L) in
      ⊎_elim
      (λ z.
      ⊎_elim
      (λ i. absurd (other (one_value f y r s (grid f a c) p (round-fits f s a c) (units→value y s (grid f a c) l t z.0 (g.3 ∙ ap (λ (x : ℕ). x * den y) i)) value)))
      (λ i. i)
      ((best_at g.0 g.1 g.2).1 z.1))
      (λ z. ⊎_elim (λ i. zero_even (kept (prec f) n c) (2 ^ drop (prec f) n c) (pow_pos (drop (prec f) n c)) i) (λ i. i) ((best_at 0 0 (pow_pos (prec f))).1 (z ∙ sym (from_zero c n))))
      (as_near (negative y) s u (w * c) n to_zero same)

-- ---- the single
even_bits : (s : Bool) (k q : ℕ) → q % 2 ≡ 0 → (cond s (2 ^ 31) 0 + (k * 0x80_0000 + q)) % 2 ≡ 0
even_bits true k q h = omega arith
even_bits false k q h = omega arith

pub round_nearest : (s : Bool) (a c : ℕ) → 0 < c → grid binary32 a c < overflow binary32 → Nearest s a c (round binary32 s a c)
round_nearest s a c C h =
    let r = round binary32 s a c in
    let v = round_value binary32 s a c h in
    record {
      single = round-fits binary32 s a c;
      number = value_finite r s (grid binary32 a c) (2 ^ 149) v;
      sign = (value→units r s (grid binary32 a c) (2 ^ 149) v).0;
      nearest = round_no_nearer binary32 s a c C h;
      even = λ y p t other e.
          ap (λ (x : ℕ). x % 2) (round_bits binary32 s a c C h) ∙ even_bits s (drop 24 (a * 2 ^ 149) c) (kept 24 (a * 2 ^ 149) c) (round_tie binary32 s a c C h y p t other e);
    }

-- ---- n over 65536, for every n of 32 bits
pub fixed_nearest : (n : ℕ) → n < 2 ^ 32 → NearestFixed n (fixed_to_single n)
fixed_nearest n h = go (ltb n (2 ^ 31)) (ltb→lt n (2 ^ 31)) (nltb→le n (2 ^ 31))
  where
    under : (n : ℕ) → 2 ^ 31 ≤ n → 2 ^ 32 - n < 2 ^ 32
    under n h = omega arith

    go : (b : Bool) → (T b → n < 2 ^ 31) → (T (not b) → 2 ^ 31 ≤ n) → NearestFixed n (fixed_to_single n)
    go true x y = rw (fixed_positive n (x tt), lt-leb (2 ^ 31) n (x tt)) (round_nearest false n 65536 (lit< tt) (in_range n h))
    go false x y = rw (fixed_negative n (y tt), le-leb (2 ^ 31) n (y tt)) (round_nearest true (2 ^ 32 - n) 65536 (lit< tt) (in_range (2 ^ 32 - n) (under n (y tt))))
