-- A value m * 2 ^ e that is no finer than 2 ^ -l is a whole number of steps of 2 ^ -l. Assumes nothing.
use mathlib.Core.Path.{◌≡◌, sym, ap, ◌∙◌}
use Prim.Native.Nat.{ℕ, suc, ◌+◌, ◌-◌, ◌*◌, ◌^◌, ◌≤◌}
use native.Mathlib.Nat.{le_of_suc-le-suc, lt_of_not-le, lt_irrefl, lt_of_lt_of_le, mul_assoc, mul-one}
use lib.IntN.{ℤ, pos, negsuc}
use lib.Pow.{pow-add, pow-lt}
use lib.Ieee.{up, down}
use lib.Ieee.Digits.{back}

pow_le_back : (a l : ℕ) → 2 ^ a ≤ 2 ^ l → a ≤ l
pow_le_back a l h = le_of_suc-le-suc (lt_of_not-le (λ (g : suc l ≤ a). lt_irrefl (2 ^ l) (lt_of_lt_of_le (pow-lt g) h)))

-- m * 2 ^ e is m * 2 ^ j steps of 2 ^ -l
pub in_units : (l m : ℕ) (e : ℤ) → down e ≤ 2 ^ l → (j : ℕ) × (m * up e * 2 ^ l ≡ m * 2 ^ j * down e)
in_units l m (pos a) h = (a + l, mul_assoc m (2 ^ a) (2 ^ l) ∙ ap (λ (x : ℕ). m * x) (sym (pow-add 2 a l)) ∙ sym (mul-one (m * 2 ^ (a + l))))
in_units l m (negsuc a) h =
    let j = l - suc a in (
      j,
      ap (λ (x : ℕ). x * 2 ^ l) (mul-one m)
          ∙ ap (λ (x : ℕ). m * x) (ap (λ (x : ℕ). 2 ^ x) (sym (back l (suc a) (pow_le_back (suc a) l h))) ∙ pow-add 2 j (suc a))
          ∙ sym (mul_assoc m (2 ^ j) (2 ^ suc a)),
    )
