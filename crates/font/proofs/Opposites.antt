-- Laws of the two readings (`specs/Slant.antt`): which numbers are readings, and a single's opposite. Assumes nothing.
use Prim.Native.Nat.{ℕ, zero, suc, ◌+◌, ◌*◌, ◌-◌, ◌^◌, ◌≤◌, ◌<◌}
use mathlib.Core.Path.{◌≡◌, refl, sym, ap, ◌∙◌, subst}
use mathlib.Core.Bool.{Bool, true, false, ◌&&◌, cond}
use native.Mathlib.Omega.{arith}
use native.Mathlib.Nat.{mul-pos, zero-mul, two-pow-succ}
use lib.Dec.{T, leb, eqb, eqb→eq}
use lib.Pow.{pow_pos}
use lib.IntN.{ℤ, pos, negsuc, neg_ℤ, neg_ℤ-neg_ℤ}
use lib.Ieee.{Float, nan, inf, fin, binary32, up, down, size, fits, is_nan, to_bits, level, neg, eq, of_int, round}
use lib.Ieee.Bits.{to_bits-lt}
use lib.Ieee.Fits.{up_pos}
use lib.Ieee.Scale.{finite}
use borrow.Author.Tests.{eqb-true, ne_eqb, lt-leb, lt-ltb, le-ltb}
use Rattle.font.specs.Single.{single, order_of_bits, order_number}
use Rattle.font.specs.Slant.{is_reading, opposite, slant_under}
use Rattle.font.specs.TwoReadings.{Opposite}
use Rattle.font.proofs.InOrder.{order_of_zero}

-- ---- the readings are 0 and 1
pub known_readings : (reading : ℕ) → leb reading 1 ≡ is_reading reading
unfolding is_reading
known_readings zero = refl
known_readings (suc zero) = refl
known_readings (suc (suc n)) =
    rw (lt-leb (suc (suc n)) 1 (omega arith), ne_eqb (suc (suc n)) 0 (λ e. omega arith), ne_eqb (suc (suc n)) 1 (λ e. omega arith))

-- ---- what is a number stays one

neg_finite : (x : Float) → finite (neg x) ≡ finite x
unfolding neg
neg_finite nan = refl
neg_finite (inf s) = refl
neg_finite (fin s m e) = refl

neg_number : (x : Float) → is_nan (neg x) ≡ is_nan x
unfolding neg is_nan
neg_number nan = refl
neg_number (inf s) = refl
neg_number (fin s m e) = refl

-- a test that holds of x, of minus x and, where x is a zero, of zero, holds of the opposite as of x
kept : (test : Float → Bool) (x : Float) → test (neg x) ≡ test x → (eq x (single 0) ≡ true → test (single 0) ≡ test x) → test (opposite x) ≡ test x
unfolding opposite
kept test x minus at_zero = go (eq x (single 0)) refl
  where
    go : (b : Bool) → eq x (single 0) ≡ b → test (cond b (single 0) (neg x)) ≡ test x
    go true e = at_zero e
    go false e = minus

-- a value that equals zero is a number
zero_number : (x : Float) → eq x (single 0) ≡ true → (finite x ≡ true) × (is_nan x ≡ false)
unfolding eq single of_int round is_nan
zero_number nan e = absurd (let z : ◌≡◌ {A = ℕ} 0 1 = cc in omega arith)
zero_number (inf s) e = absurd (let z : ◌≡◌ {A = ℕ} 0 1 = cc in omega arith)
zero_number (fin s m d) e = (refl, refl)

pub opposite_finite : (x : Float) → finite (opposite x) ≡ finite x
unfolding single of_int round
opposite_finite x = kept finite x (neg_finite x) (λ e. sym (zero_number x e).0)

opposite_number : (x : Float) → is_nan (opposite x) ≡ is_nan x
unfolding single of_int round is_nan
opposite_number x = kept is_nan x (neg_number x) (λ e. sym (zero_number x e).1)

under : (test : Float → Bool) (reading : ℕ) (x : Float) → test (opposite x) ≡ test x → test (slant_under reading x) ≡ test x
unfolding slant_under
under test reading x h = go (eqb reading 1)
  where
    go : (b : Bool) → test (cond b (opposite x) x) ≡ test x
    go true = h
    go false = refl

pub slant_finite : (reading : ℕ) (x : Float) → finite (slant_under reading x) ≡ finite x
slant_finite reading x = under finite reading x (opposite_finite x)

pub slant_number : (reading : ℕ) (x : Float) → is_nan (slant_under reading x) ≡ is_nan x
slant_number reading x = under is_nan reading x (opposite_number x)

-- ---- the order of opposites

neg_twice : (x : Float) → neg (neg x) ≡ x
unfolding neg
neg_twice nan = refl
neg_twice (inf true) = refl
neg_twice (inf false) = refl
neg_twice (fin true m e) = refl
neg_twice (fin false m e) = refl

zero_equals : (s : Bool) → eq (neg (fin s 0 (pos 0))) (single 0) ≡ true
unfolding neg eq single of_int round
zero_equals true = refl
zero_equals false = refl

-- the format holds minus x as it holds x
neg_held : (x : Float) → fits binary32 (neg x) ≡ fits binary32 x
unfolding neg fits
neg_held nan = refl
neg_held (inf s) = refl
neg_held (fin s zero e) = refl
neg_held (fin s (suc m) e) = refl

-- the bits of a value below zero are those of its magnitude and the sign's
module _ (m : ℕ) (e : ℤ) (held : T (fits binary32 (fin true m e))) where
  abbrev magnitude : ℕ
  magnitude = to_bits binary32 (fin false m e)

  below_zero_lem : to_bits binary32 (fin true m e) ≡ 2 ^ 31 + magnitude
  unfolding to_bits size
  below_zero_lem = omega arith

  in_31_bits : magnitude < 2 ^ 31
  in_31_bits = omega (arith, below_zero_lem, to_bits-lt binary32 (fin true m e) held)

  order_up : order_number (fin false m e) ≡ pos magnitude
  unfolding order_number order_of_bits
  order_up = rw (lt-ltb magnitude (2 ^ 31) in_31_bits)

  order_down : order_number (fin true m e) ≡ neg_ℤ (pos magnitude)
  unfolding order_number order_of_bits
  order_down =
      let same : 2 ^ 31 + magnitude - 2 ^ 31 ≡ magnitude = omega arith in
      rw (below_zero_lem, le-ltb (2 ^ 31 + magnitude) (2 ^ 31) (omega arith), same)

order_neg : (x : Float) → T (fits binary32 x) → finite x ≡ true → order_number (neg x) ≡ neg_ℤ (order_number x)
unfolding neg
order_neg nan h f = absurd (let z : ◌≡◌ {A = ℕ} 0 1 = cc in omega arith)
order_neg (inf s) h f = absurd (let z : ◌≡◌ {A = ℕ} 0 1 = cc in omega arith)
order_neg (fin false m e) h f =
    let held = subst T (sym (neg_held (fin false m e))) h in
    order_down m e held ∙ ap neg_ℤ (sym (order_up m e held))
order_neg (fin true m e) h f = order_up m e h ∙ sym (ap neg_ℤ (order_down m e h) ∙ neg_ℤ-neg_ℤ (pos (to_bits binary32 (fin false m e))))

two_or_more : (k : ℕ) → 2 ≤ 2 ^ suc k
two_or_more k = omega (arith, pow_pos k, two-pow-succ k)

first_holds : (a b : Bool) → a && b ≡ true → a ≡ true
first_holds true b e = refl
first_holds false b e = e

-- a number that is not 0 is not equal to zero
nonzero : (m : ℕ) (e : ℤ) (s : Bool) → level s (suc m * up e * 1) false (0 * 1 * down e) ≡ true → ⊥
nonzero m e s t =
    let above : 0 < suc m * up e = mul-pos (omega arith) (up_pos e) in
    let same : suc m * up e * 1 ≡ 0 * 1 * down e = eqb-true (suc m * up e * 1) (0 * 1 * down e) (first_holds _ _ t) in
    omega (arith, zero-mul (down e))

-- a single that equals zero is one of the two zeros
zeros : (x : Float) → T (fits binary32 x) → eq x (single 0) ≡ true → (s : Bool) × (x ≡ fin s 0 (pos 0))
unfolding eq fits single of_int round
zeros nan h e = absurd (let z : ◌≡◌ {A = ℕ} 0 1 = cc in omega arith)
zeros (inf s) h e = absurd (let z : ◌≡◌ {A = ℕ} 0 1 = cc in omega arith)
zeros (fin s zero (pos zero)) h e = (s, refl)
zeros (fin s zero (pos (suc k))) h e = absurd (let z : 2 ^ suc k * 1 ≡ 1 = eqb→eq _ _ h in omega (arith, two_or_more k))
zeros (fin s zero (negsuc k)) h e = absurd (let z : 1 * 2 ^ suc k ≡ 1 = eqb→eq _ _ h in omega (arith, two_or_more k))
zeros (fin s (suc m) d) h e = absurd (nonzero m d s e)

-- ---- the opposite of a finite single

module _ (x : Float) (held : T (fits binary32 x)) (number : finite x ≡ true) where
  -- where x is a zero, and where it is none
  at_zero : eq x (single 0) ≡ true → opposite x ≡ single 0
  unfolding opposite
  at_zero e = rw e

  elsewhere : eq x (single 0) ≡ false → opposite x ≡ neg x
  unfolding opposite
  elsewhere e = rw e

  order_zero : eq x (single 0) ≡ true → order_number x ≡ pos 0
  order_zero e = let z = zeros x held e in ap order_number z.1 ∙ order_of_zero z.0

  order : order_number (opposite x) ≡ neg_ℤ (order_number x)
  unfolding single of_int round
  order = go (eq x (single 0)) refl
    where
      go : (b : Bool) → eq x (single 0) ≡ b → order_number (opposite x) ≡ neg_ℤ (order_number x)
      go true e = ap order_number (at_zero e) ∙ order_of_zero false ∙ sym (ap neg_ℤ (order_zero e))
      go false e = ap order_number (elsewhere e) ∙ order_neg x held number

  held_opposite : T (fits binary32 (opposite x))
  unfolding single of_int round fits
  held_opposite = go (eq x (single 0)) refl
    where
      go : (b : Bool) → eq x (single 0) ≡ b → T (fits binary32 (opposite x))
      go true e = subst (λ (y : Float). T (fits binary32 y)) (sym (at_zero e)) tt
      go false e = subst (λ (y : Float). T (fits binary32 y)) (sym (elsewhere e)) (subst T (sym (neg_held x)) held)

  -- minus a number that is no zero is no zero
  none_after : eq x (single 0) ≡ false → eq (neg x) (single 0) ≡ false
  none_after e = go (eq (neg x) (single 0)) refl
    where
      go : (b : Bool) → eq (neg x) (single 0) ≡ b → b ≡ false
      go false h = refl
      go true h =
          let z = zeros (neg x) (subst T (sym (neg_held x)) held) h in
          sym (ap (λ (y : Float). eq y (single 0)) (sym (neg_twice x) ∙ ap neg z.1) ∙ zero_equals z.0) ∙ e

  positive : eq (opposite x) (single 0) ≡ true → opposite x ≡ single 0
  positive h = go (eq x (single 0)) refl
    where
      go : (b : Bool) → eq x (single 0) ≡ b → opposite x ≡ single 0
      go true e = at_zero e
      go false e =
          let no : eq (opposite x) (single 0) ≡ false = ap (λ (y : Float). eq y (single 0)) (elsewhere e) ∙ none_after e in
          absurd (let z : ◌≡◌ {A = ℕ} 0 1 = cc in omega arith)

  pub laws : Opposite x
  unfolding opposite
  laws =
      record {
        order = order;
        held = held_opposite;
        number = opposite_finite x ∙ number;
        positive_zero = positive;
        back = λ e. ap opposite (elsewhere e) ∙ rw (none_after e) (neg_twice x);
      }
