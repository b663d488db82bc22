-- The order number from the bits: which of its two cases holds, and how the carried number, raised by 2 ^ 31, is the order number. Assumes nothing.
use mathlib.Core.Path.{◌≡◌, refl, sym, ap, ◌∙◌}
use mathlib.Core.Bool.{Bool, true, false, not, cond}
use Prim.Native.Nat.{ℕ, zero, suc, ◌+◌, ◌-◌, ◌<◌, ◌≤◌, ◌^◌}
use native.Mathlib.Omega.{arith}
use lib.Dec.{T, ltb}
use lib.IntN.{pos, negsuc, neg_ℤ, ◌+ℤ◌}
use lib.Ieee.{Float, binary32, fits, is_nan, to_bits}
use lib.Ieee.Bits.{cond_no, to_bits-lt}
use borrow.Author.Tests.{lt-ltb, le-ltb, ltb-false}
use Rattle.font.specs.Single.{order_of_bits, order_number, key_of_bits, order_key}

module _ (x : Float) (h : T (not (is_nan x))) where
  pub key_of_bits_lem : order_key x ≡ key_of_bits (to_bits binary32 x)
  unfolding order_key
  key_of_bits_lem = cond_no (is_nan x) 0 (key_of_bits (to_bits binary32 x)) h

  pub key_low : to_bits binary32 x < 2 ^ 31 → order_key x ≡ 2 ^ 31 + to_bits binary32 x
  unfolding key_of_bits
  key_low l = let b = to_bits binary32 x in key_of_bits_lem ∙ ap (λ (t : Bool). cond t (2 ^ 31 + b) (2 ^ 32 - b)) (lt-ltb b (2 ^ 31) l)

  pub key_high : 2 ^ 31 ≤ to_bits binary32 x → order_key x ≡ 2 ^ 32 - to_bits binary32 x
  unfolding key_of_bits
  key_high l = let b = to_bits binary32 x in key_of_bits_lem ∙ ap (λ (t : Bool). cond t (2 ^ 31 + b) (2 ^ 32 - b)) (le-ltb b (2 ^ 31) l)

-- ---- the carried number is the order number raised by 2 ^ 31

lowered : (d : ℕ) → d ≤ 2 ^ 31 → pos (2 ^ 31 - d) ≡ pos (2 ^ 31) +ℤ neg_ℤ (pos d)
lowered zero h = refl
lowered (suc d) h = sym (ap (λ (t : Bool). cond t (negsuc (suc d - suc (2 ^ 31))) (pos (2 ^ 31 - suc d))) (le-ltb (2 ^ 31) (suc d) h))

raised_bits : (b : ℕ) → b < 2 ^ 32 → pos (key_of_bits b) ≡ pos (2 ^ 31) +ℤ order_of_bits b
unfolding key_of_bits order_of_bits
raised_bits b h = go (ltb b (2 ^ 31)) refl
  where
    go : (t : Bool) → ltb b (2 ^ 31) ≡ t → pos (cond t (2 ^ 31 + b) (2 ^ 32 - b)) ≡ pos (2 ^ 31) +ℤ cond t (pos b) (neg_ℤ (pos (b - 2 ^ 31)))
    go true e = refl
    go false e = ap pos (let l : 2 ^ 31 ≤ b = ltb-false b (2 ^ 31) e in omega arith) ∙ lowered (b - 2 ^ 31) (omega arith)

pub raised : (x : Float) → T (not (is_nan x)) → T (fits binary32 x) → pos (order_key x) ≡ pos (2 ^ 31) +ℤ order_number x
unfolding order_number
raised x h f = ap pos (key_of_bits_lem x h) ∙ raised_bits (to_bits binary32 x) (to_bits-lt binary32 x f)

pub ruleset of_high_bits = (key_high, to_bits-lt)
