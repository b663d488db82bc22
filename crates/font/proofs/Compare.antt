-- Two singles compare as their signs and their steps do (`Steps.antt`): `lt_in_steps`, `eq_in_steps`. An infinity counts as 2 ^ 128. Assumes nothing.
use mathlib.Core.Path.{◌≡◌, refl, sym, ap, ap₂, ◌∙◌, subst, subst₂}
use mathlib.Core.Bool.{Bool, true, false, not, ◌&&◌, ◌||◌, beq}
use Prim.Native.Nat.{ℕ, ◌+◌, ◌*◌, ◌<◌, ◌^◌}
use native.Mathlib.Nat.{mul_assoc, mul_comm, mul_right_comm, zero-mul, add-mul, mul-pos, mul-lt-mul_of_pos_right, lt_of_mul-lt-mul_right, eq_of_mul-eq-mul_right, le_of_lt, lt_irrefl, lt_of_lt_of_le, le-add_left, le-add_right}
use lib.Dec.{T, ltb, eqb, ltb→lt, lt→ltb, eqb→eq}
use lib.IntN.{ℤ}
use lib.Pow.{pow_pos}
use lib.Ieee.{Float, nan, inf, fin, binary32, up, down, fits, is_nan, below, level, lt, eq}
use lib.Ieee.Fits.{eq→eqb, down_pos}
use borrow.Author.Tests.{lt-ltb, le-ltb, ne_eqb}
use Rattle.font.specs.Nearest.{negative}
use Rattle.font.proofs.Steps.{steps, Value, value_of}

-- ---- tests that agree

pub same : (a b : Bool) → (T a → T b) → (T b → T a) → a ≡ b
same true true p q = refl
same true false p q = absurd (p tt)
same false true p q = absurd (q tt)
same false false p q = refl

pub same_lt : {a b c d : ℕ} → (a < b → c < d) → (c < d → a < b) → ltb a b ≡ ltb c d
same_lt {a} {b} {c} {d} p q = same (ltb a b) (ltb c d) (λ t. lt→ltb c d (p (ltb→lt a b t))) (λ t. lt→ltb a b (q (ltb→lt c d t)))

pub same_eq : {a b c d : ℕ} → (a ≡ b → c ≡ d) → (c ≡ d → a ≡ b) → eqb a b ≡ eqb c d
same_eq {a} {b} {c} {d} p q = same (eqb a b) (eqb c d) (λ t. eq→eqb (p (eqb→eq a b t))) (λ t. eq→eqb (q (eqb→eq c d t)))

-- ---- two values compare as their steps do

module _ (l w : ℕ) (L : 0 < l) (W : 0 < w) where
  -- u in units of l is n in units of w
  record As (u n : ℕ) : Type 0 where
    unit : u * l ≡ n * w

  as_zero : As 0 0
  as_zero = record { unit = zero-mul l ∙ sym (zero-mul w) }

  as_sum : {u v n m : ℕ} → As u n → As v m → As (u + v) (n + m)
  as_sum {u} {v} {n} {m} p q = record { unit = add-mul u v l ∙ ap₂ ◌+◌ p.unit q.unit ∙ sym (add-mul n m w) }

  as_lt : {u v n m : ℕ} → As u n → As v m → ltb u v ≡ ltb n m
  as_lt p q =
      same_lt (λ h. lt_of_mul-lt-mul_right w (subst₂ ◌<◌ p.unit q.unit (mul-lt-mul_of_pos_right h L)))
      (λ h. lt_of_mul-lt-mul_right l (subst₂ ◌<◌ (sym p.unit) (sym q.unit) (mul-lt-mul_of_pos_right h W)))

  as_eq : {u v n m : ℕ} → As u n → As v m → eqb u v ≡ eqb n m
  as_eq {u} {v} {n} {m} p q =
      same_eq (λ h. eq_of_mul-eq-mul_right w W n m (sym p.unit ∙ ap (λ (z : ℕ). z * l) h ∙ q.unit))
      (λ h. eq_of_mul-eq-mul_right l L u v (p.unit ∙ ap (λ (z : ℕ). z * w) h ∙ sym q.unit))

  as_below : (s t : Bool) {u v n m : ℕ} → As u n → As v m → below s u t v ≡ below s n t m
  as_below false false p q = as_lt p q
  as_below false true p q = refl
  as_below true false p q = as_lt as_zero (as_sum p q)
  as_below true true p q = as_lt q p

  as_level : (s t : Bool) {u v n m : ℕ} → As u n → As v m → level s u t v ≡ level s n t m
  as_level s t p q = ap₂ (λ (a b : Bool). a && (beq s t || b)) (as_eq p q) (as_eq p as_zero)

-- the numbers that `lt` and `eq` compare are the two values' steps, in another unit
module _ {m n a b : ℕ} {e d : ℤ} (v : Value m e a) (w : Value n d b) where
  unit_pos : 0 < down e * down d
  unit_pos = mul-pos (down_pos e) (down_pos d)

  left : As (2 ^ 149) (down e * down d) (pow_pos 149) unit_pos (m * up e * down d) a
  left = record { unit = mul_right_comm (m * up e) (down d) (2 ^ 149) ∙ ap (λ (z : ℕ). z * down d) v.scale ∙ mul_assoc a (down e) (down d) }

  right : As (2 ^ 149) (down e * down d) (pow_pos 149) unit_pos (n * up d * down e) b
  right = record {
    unit =
        mul_right_comm (n * up d) (down e) (2 ^ 149)
        ∙ ap (λ (z : ℕ). z * down e) w.scale
        ∙ mul_assoc b (down d) (down e)
        ∙ ap (λ (z : ℕ). b * z) (mul_comm (down d) (down e));
  }

  below_in_steps : (s t : Bool) → below s (m * up e * down d) t (n * up d * down e) ≡ below s a t b
  below_in_steps s t = as_below (2 ^ 149) (down e * down d) (pow_pos 149) unit_pos s t left right

  level_in_steps : (s t : Bool) → level s (m * up e * down d) t (n * up d * down e) ≡ level s a t b
  level_in_steps s t = as_level (2 ^ 149) (down e * down d) (pow_pos 149) unit_pos s t left right

-- an infinity against what is less
inf_below : (s t : Bool) (a : ℕ) → a < 2 ^ 277 → s ≡ below s (2 ^ 277) t a
inf_below false false a h = sym (le-ltb (2 ^ 277) a (le_of_lt h))
inf_below false true a h = refl
inf_below true false a h = sym (lt-ltb 0 (2 ^ 277 + a) (lt_of_lt_of_le (pow_pos 277) (le-add_right (2 ^ 277) a)))
inf_below true true a h = sym (lt-ltb a (2 ^ 277) h)

below_inf : (s t : Bool) (a : ℕ) → a < 2 ^ 277 → not t ≡ below s a t (2 ^ 277)
below_inf false false a h = sym (lt-ltb a (2 ^ 277) h)
below_inf false true a h = refl
below_inf true false a h = sym (lt-ltb 0 (a + 2 ^ 277) (lt_of_lt_of_le (pow_pos 277) (le-add_left (2 ^ 277) a)))
below_inf true true a h = sym (le-ltb (2 ^ 277) a (le_of_lt h))

inf_level : (s t : Bool) (a : ℕ) → a < 2 ^ 277 → false ≡ level s (2 ^ 277) t a
inf_level s t a h = ap (λ (z : Bool). z && (beq s t || false)) (sym (ne_eqb (2 ^ 277) a (λ z. lt_irrefl a (subst (λ (k : ℕ). a < k) z h))))

level_inf : (s t : Bool) (a : ℕ) → a < 2 ^ 277 → false ≡ level s a t (2 ^ 277)
level_inf s t a h = ap (λ (z : Bool). z && (beq s t || eqb a 0)) (sym (ne_eqb a (2 ^ 277) (λ z. lt_irrefl a (subst (λ (k : ℕ). a < k) (sym z) h))))

inf_inf_below : (s t : Bool) → (s && not t) ≡ below s (2 ^ 277) t (2 ^ 277)
inf_inf_below false false = refl
inf_inf_below false true = refl
inf_inf_below true false = refl
inf_inf_below true true = refl

inf_inf_level : (s t : Bool) → beq s t ≡ level s (2 ^ 277) t (2 ^ 277)
inf_inf_level false false = refl
inf_inf_level false true = refl
inf_inf_level true false = refl
inf_inf_level true true = refl

-- x is a single and no NaN
pub record Number (x : Float) : Type 0 where
  pub no_nan : T (not (is_nan x))
  pub held : T (fits binary32 x)

pub lt_in_steps : (x y : Float) → Number x → Number y → lt x y ≡ below (negative x) (steps x) (negative y) (steps y)
unfolding is_nan lt steps
lt_in_steps nan y X Y = absurd X.no_nan
lt_in_steps (inf s) nan X Y = absurd Y.no_nan
lt_in_steps (inf s) (inf t) X Y = inf_inf_below s t
lt_in_steps (inf s) (fin t n d) X Y = inf_below s t (steps (fin t n d)) (value_of t n d Y.held).finite
lt_in_steps (fin s m e) nan X Y = absurd Y.no_nan
lt_in_steps (fin s m e) (inf t) X Y = below_inf s t (steps (fin s m e)) (value_of s m e X.held).finite
lt_in_steps (fin s m e) (fin t n d) X Y = below_in_steps (value_of s m e X.held) (value_of t n d Y.held) s t

pub eq_in_steps : (x y : Float) → Number x → Number y → eq x y ≡ level (negative x) (steps x) (negative y) (steps y)
unfolding is_nan eq steps
eq_in_steps nan y X Y = absurd X.no_nan
eq_in_steps (inf s) nan X Y = absurd Y.no_nan
eq_in_steps (inf s) (inf t) X Y = inf_inf_level s t
eq_in_steps (inf s) (fin t n d) X Y = inf_level s t (steps (fin t n d)) (value_of t n d Y.held).finite
eq_in_steps (fin s m e) nan X Y = absurd Y.no_nan
eq_in_steps (fin s m e) (inf t) X Y = level_inf s t (steps (fin s m e)) (value_of s m e X.held).finite
eq_in_steps (fin s m e) (fin t n d) X Y = level_in_steps (value_of s m e X.held) (value_of t n d Y.held) s t
