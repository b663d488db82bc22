-- The order number orders singles as IEEE 754 compares them, and both zeros have one. For all singles x and y that are no NaN,
-- `lt`, `eq` and `le` are the comparisons of the carried order numbers (`orders_lt`, `orders_eq`, `orders_le`; `Number` of `Compare.antt` is such an x). That the carried number is the order number raised by 2 ^ 31 is `raised` of `OrderKey.antt`. Assumes nothing.
use mathlib.Core.Path.{◌≡◌, refl, sym, ap, ap₂, ◌∙◌, subst}
use mathlib.Core.Bool.{Bool, true, false, ◌&&◌, ◌||◌, cond}
use mathlib.Core.Logic.{inl, inr}
use Prim.Native.Nat.{ℕ, ◌+◌, ◌-◌, ◌<◌, ◌≤◌, ◌^◌}
use native.Mathlib.Nat.{lt_of_not-le, lt_irrefl, eq-or-lt_of_le, eq-zero-or-pos, le_antisymm, le_of_eq, le_of_lt}
use native.Mathlib.Omega.{arith}
use lib.Dec.{ltb, leb, eqb, leb→le, le→leb, eqb→eq, lit≤}
use lib.IntN.{pos}
use lib.Ieee.{Float, fin, binary32, is_nan, to_bits, below, level, lt, eq, le, size}
use lib.Ieee.Fits.{eq→eqb, and_i, and_l, and_r}
use borrow.Author.Tests.{le-ltb, le-leb, ltb-true, ltb-false}
use Rattle.font.specs.Single.{order_key, key_of_bits}
use Rattle.font.proofs.Pattern.{pattern, Steps, pattern_mono, pattern_zero, pattern_under}
use Rattle.font.specs.Nearest.{negative}
use Rattle.font.proofs.Steps.{steps, bits_of, steps_of}
use Rattle.font.proofs.OrderKey.{key_low, key_high}
use Rattle.font.proofs.Compare.{same, same_lt, same_eq, Number, lt_in_steps, eq_in_steps}

-- ---- the carried order number, by the sign and the pattern of the magnitude

abbrev key : Bool → ℕ → ℕ
key s p = cond s (2 ^ 31 - p) (2 ^ 31 + p)

key_is : (x : Float) → Number x → order_key x ≡ key (negative x) (pattern (steps x))
key_is x X = go (negative x) (bits_of x X.no_nan)
  where
    p : ℕ
    p = pattern (steps x)

    under : p < 2 ^ 31
    under = pattern_under (steps x) (steps_of x X.no_nan X.held)

    go : (s : Bool) → to_bits binary32 x ≡ cond s (2 ^ 31) 0 + p → order_key x ≡ key s p
    go false e = key_low x X.no_nan (omega (arith, e, under)) ∙ omega (arith, e)
    go true e = key_high x X.no_nan (omega (arith, e, under)) ∙ omega (arith, e)

-- ---- a larger magnitude has a larger pattern, and the other way round

module _ {m n : ℕ} (M : Steps m) (N : Steps n) where
  less_back : pattern m < pattern n → m < n
  less_back h = lt_of_not-le (λ (g : n ≤ m). elim (eq-or-lt_of_le g) [
    | inl e ↦ lt_irrefl (pattern n) (subst (λ (z : ℕ). pattern z < pattern n) (sym e) h)
    | inr l ↦ omega (arith, pattern_mono n m N M l)
  ])

  less : m < n → pattern m < pattern n
  less = pattern_mono m n M N

same_back : {m n : ℕ} → Steps m → Steps n → pattern m ≡ pattern n → m ≡ n
same_back {m} {n} M N h =
    let a : n < m → ⊥ = λ g. omega (arith, less N M g) in
    let b : m < n → ⊥ = λ g. omega (arith, less M N g) in
    omega arith

-- no steps
none : Steps 0
unfolding size
none = record { exact = refl; under = lit≤ tt }

some : {n : ℕ} → Steps n → 0 < n → 0 < pattern n
some N h = omega (arith, pattern_zero, less none N h)

some_back : {n : ℕ} → Steps n → 0 < pattern n → 0 < n
some_back N h = less_back none N (omega (arith, pattern_zero))

and_true : (b : Bool) → (b && true) ≡ b
and_true true = refl
and_true false = refl

module _ {m n : ℕ} (M : Steps m) (N : Steps n) where
  -- one of the two is not 0
  either : 0 < m + n → 0 < pattern m + pattern n
  either h = elim (eq-zero-or-pos m) [
    | inl z ↦ omega (arith, some N (omega arith))
    | inr p ↦ omega (arith, some M p)
  ]

  either_back : 0 < pattern m + pattern n → 0 < m + n
  either_back h = elim (eq-zero-or-pos (pattern m)) [
    | inl z ↦ omega (arith, some_back N (omega arith))
    | inr p ↦ omega (arith, some_back M p)
  ]

  key_below : (s t : Bool) → below s m t n ≡ ltb (key s (pattern m)) (key t (pattern n))
  key_below false false = same_lt (λ h. omega (arith, less M N h)) (λ (h : 2 ^ 31 + pattern m < 2 ^ 31 + pattern n). less_back M N (omega arith))
  key_below false true = sym (le-ltb (2 ^ 31 + pattern m) (2 ^ 31 - pattern n) (omega arith))
  key_below true false = same_lt (λ h. omega (arith, either h, pattern_under m M)) (λ (h : 2 ^ 31 - pattern m < 2 ^ 31 + pattern n). either_back (omega arith))
  key_below true true = same_lt (λ h. omega (arith, less N M h, pattern_under m M)) (λ (h : 2 ^ 31 - pattern m < 2 ^ 31 - pattern n). less_back N M (omega (arith, pattern_under n N)))

  -- both are 0
  neither : {a b : ℕ} → (a ≡ b → pattern m + pattern n ≡ 0) → (pattern m + pattern n ≡ 0 → a ≡ b) → (eqb m n && eqb m 0) ≡ eqb a b
  neither {a} {b} p q =
      same (eqb m n && eqb m 0) (eqb a b) (λ t. eq→eqb (q (forth (eqb→eq m n (and_l (eqb m n) (eqb m 0) t)) (eqb→eq m 0 (and_r (eqb m n) (eqb m 0) t)))))
      (λ t. let z : m + n ≡ 0 = back (p (eqb→eq a b t)) in and_i (eqb m n) (eqb m 0) (eq→eqb {a = m} {b = n} (omega arith)) (eq→eqb {a = m} {b = 0} (omega arith)))
    where
      forth : m ≡ n → m ≡ 0 → pattern m + pattern n ≡ 0
      forth e z = let r : 0 < pattern m + pattern n → ⊥ = λ g. omega (arith, either_back g) in omega arith

      back : pattern m + pattern n ≡ 0 → m + n ≡ 0
      back z = let r : 0 < m + n → ⊥ = λ g. omega (arith, either g) in omega arith

  key_level : (s t : Bool) → level s m t n ≡ eqb (key s (pattern m)) (key t (pattern n))
  key_level false false = and_true (eqb m n) ∙ same_eq (λ h. ap (λ (z : ℕ). 2 ^ 31 + pattern z) h) (λ (h : 2 ^ 31 + pattern m ≡ 2 ^ 31 + pattern n). same_back M N (omega arith))
  key_level false true = neither {a = 2 ^ 31 + pattern m} {b = 2 ^ 31 - pattern n} (λ h. omega (arith, pattern_under n N)) (λ h. omega arith)
  key_level true false = neither {a = 2 ^ 31 - pattern m} {b = 2 ^ 31 + pattern n} (λ h. omega (arith, pattern_under m M)) (λ h. omega arith)
  key_level true true = and_true (eqb m n) ∙ same_eq (λ h. ap (λ (z : ℕ). 2 ^ 31 - pattern z) h) (λ (h : 2 ^ 31 - pattern m ≡ 2 ^ 31 - pattern n). same_back M N (omega (arith, pattern_under m M, pattern_under n N)))

-- ---- the laws

or_leb : (a b : ℕ) → (ltb a b || eqb a b) ≡ leb a b
or_leb a b = go (ltb a b) refl
  where
    go : (t : Bool) → ltb a b ≡ t → (t || eqb a b) ≡ leb a b
    go true e = sym (le-leb a b (le_of_lt (ltb-true a b e)))
    go false e = same (eqb a b) (leb a b) (λ t. le→leb a b (le_of_eq (eqb→eq a b t))) (λ t. eq→eqb (le_antisymm (leb→le a b t) (ltb-false a b e)))

module _ (x y : Float) (X : Number x) (Y : Number y) where
  pub orders_lt : lt x y ≡ ltb (order_key x) (order_key y)
  orders_lt = lt_in_steps x y X Y ∙ key_below (steps_of x X.no_nan X.held) (steps_of y Y.no_nan Y.held) (negative x) (negative y) ∙ sym (ap₂ ltb (key_is x X) (key_is y Y))

  pub orders_eq : eq x y ≡ eqb (order_key x) (order_key y)
  orders_eq = eq_in_steps x y X Y ∙ key_level (steps_of x X.no_nan X.held) (steps_of y Y.no_nan Y.held) (negative x) (negative y) ∙ sym (ap₂ eqb (key_is x X) (key_is y Y))

  pub orders_le : le x y ≡ leb (order_key x) (order_key y)
  unfolding le
  orders_le = ap₂ ◌||◌ orders_lt orders_eq ∙ or_leb (order_key x) (order_key y)

pub key_of_zero : (s : Bool) → order_key (fin s 0 (pos 0)) ≡ 2 ^ 31
unfolding order_key key_of_bits is_nan to_bits size
key_of_zero true = refl
key_of_zero false = refl
