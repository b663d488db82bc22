-- A style is told from every other by its number: no finite angle has the number of normal, italic or unstated.
use Prim.Native.Nat.{ℕ, ◌-◌, ◌^◌, ◌<◌}
use mathlib.Core.Path.{◌≡◌, refl, sym, ◌∙◌, ap}
use mathlib.Core.Bool.{true, false}
use mathlib.Core.Logic.{◌⊎◌, inl, inr}
use native.Mathlib.Omega.{arith}
use native.Mathlib.Decide.{ℕ_discrete}
use lib.Dec.{T, ltb}
use lib.Ieee.{Float, nan, inf, fin, binary32, fits, is_nan, to_bits, of_bits}
use lib.Ieee.Bits.{of_bits-to_bits, to_bits-lt}
use lib.Ieee.Scale.{finite}
use borrow.Author.Tests.{ltb-false}
use Rattle.font.specs.Single.{key_of_bits, order_key}
use Rattle.matching.proofs.Below.{truth, clash}

-- the two patterns whose order numbers would be 1 and 2 are no numbers
last_pattern : of_bits binary32 (2 ^ 32 - 1) ≡ nan
unfolding of_bits
last_pattern = refl

one_before : of_bits binary32 (2 ^ 32 - 2) ≡ nan
unfolding of_bits
one_before = refl

module _ (x : Float) (single : T (fits binary32 x)) (number : finite x ≡ true) where
  not_nan : x ≡ nan → ⊥
  not_nan e = clash number (ap finite e)

  not_bits : (n : ℕ) → of_bits binary32 n ≡ nan → to_bits binary32 x ≡ n → ⊥
  not_bits n e q = not_nan (sym (of_bits-to_bits binary32 x single) ∙ ap (of_bits binary32) q ∙ e)

  key_above : 2 < key_of_bits (to_bits binary32 x)
  unfolding key_of_bits
  key_above = go (truth (ltb (to_bits binary32 x) (2 ^ 31))) (ℕ_discrete (to_bits binary32 x) (2 ^ 32 - 1)) (ℕ_discrete (to_bits binary32 x) (2 ^ 32 - 2))
    where
      go : (ltb (to_bits binary32 x) (2 ^ 31) ≡ true) ⊎ (ltb (to_bits binary32 x) (2 ^ 31) ≡ false)
          → Dec (to_bits binary32 x ≡ 2 ^ 32 - 1) → Dec (to_bits binary32 x ≡ 2 ^ 32 - 2) → 2 < key_of_bits (to_bits binary32 x)
      go (inl t) a b = rw t (omega arith)
      go (inr f) (yes q) b = absurd (not_bits (2 ^ 32 - 1) last_pattern q)
      go (inr f) (no d) (yes q) = absurd (not_bits (2 ^ 32 - 2) one_before q)
      go (inr f) (no d) (no e) = rw f (omega (arith, ltb-false (to_bits binary32 x) (2 ^ 31) f, to_bits-lt binary32 x single))

  pub angle_apart : 2 < order_key x
  unfolding order_key is_nan
  angle_apart = go x refl
    where
      go : (y : Float) → x ≡ y → 2 < order_key x
      go nan e = absurd (not_nan e)
      go (inf s) e = absurd (clash number (ap finite e))
      go (fin s m d) e = rw (ap is_nan e) key_above
