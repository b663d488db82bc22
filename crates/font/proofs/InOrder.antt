-- Section 1's comparison: the order number itself orders singles that are no NaN as IEEE 754 does, and both zeros have the order number 0. Assumes nothing.
use mathlib.Core.Path.{◌≡◌, refl, sym, ap, ap₂, ◌∙◌}
use mathlib.Core.Bool.{Bool, true, false, cond}
use Prim.Native.Nat.{ℕ, zero, suc, ◌+◌, ◌-◌, ◌<◌, ◌≤◌, ◌^◌}
use native.Mathlib.Omega.{arith}
use lib.Dec.{ltb}
use lib.IntN.{pos, neg_ℤ}
use lib.Signed.{lt_z}
use lib.Ieee.{Float, fin, binary32, to_bits, lt, size}
use lib.Ieee.Bits.{to_bits-lt}
use borrow.Author.Tests.{lt-ltb, le-ltb, ltb-false}
use Rattle.font.specs.Single.{order_of_bits, order_number, key_of_bits}
use Rattle.font.proofs.OrderKey.{key_of_bits_lem}
use Rattle.font.proofs.Compare.{Number, same_lt}
use Rattle.font.proofs.Order.{orders_lt}

both_up : (a b : ℕ) → ltb (2 ^ 31 + a) (2 ^ 31 + b) ≡ ltb a b
both_up a b = same_lt (λ (h : 2 ^ 31 + a < 2 ^ 31 + b). omega arith) (λ (h : a < b). omega arith)

up_down : (a d : ℕ) → d ≤ 2 ^ 31 → ltb (2 ^ 31 + a) (2 ^ 31 - d) ≡ lt_z (pos a) (neg_ℤ (pos d))
up_down a zero h = le-ltb (2 ^ 31 + a) (2 ^ 31) (omega arith) ∙ sym (le-ltb a 0 (omega arith))
up_down a (suc d) h = le-ltb (2 ^ 31 + a) (2 ^ 31 - suc d) (omega arith)

down_up : (d a : ℕ) → d ≤ 2 ^ 31 → ltb (2 ^ 31 - d) (2 ^ 31 + a) ≡ lt_z (neg_ℤ (pos d)) (pos a)
down_up zero a h = both_up 0 a
down_up (suc d) a h = lt-ltb (2 ^ 31 - suc d) (2 ^ 31 + a) (omega arith)

both_down : (c d : ℕ) → c ≤ 2 ^ 31 → d ≤ 2 ^ 31 → ltb (2 ^ 31 - c) (2 ^ 31 - d) ≡ lt_z (neg_ℤ (pos c)) (neg_ℤ (pos d))
both_down zero zero h k = refl
both_down zero (suc d) h k = le-ltb (2 ^ 31) (2 ^ 31 - suc d) (omega arith)
both_down (suc c) zero h k = lt-ltb (2 ^ 31 - suc c) (2 ^ 31) (omega arith)
both_down (suc c) (suc d) h k = same_lt (λ (g : 2 ^ 31 - suc c < 2 ^ 31 - suc d). omega arith) (λ (g : d < c). omega arith)

flip : (b : ℕ) → 2 ^ 31 ≤ b → b < 2 ^ 32 → 2 ^ 32 - b ≡ 2 ^ 31 - (b - 2 ^ 31)
flip b h l = omega arith

in_bits : (b c : ℕ) → b < 2 ^ 32 → c < 2 ^ 32 → ltb (key_of_bits b) (key_of_bits c) ≡ lt_z (order_of_bits b) (order_of_bits c)
unfolding key_of_bits order_of_bits
in_bits b c B C = go (ltb b (2 ^ 31)) (ltb c (2 ^ 31)) refl refl
  where
    go : (s t : Bool) → ltb b (2 ^ 31) ≡ s → ltb c (2 ^ 31) ≡ t
        → ltb (cond s (2 ^ 31 + b) (2 ^ 32 - b)) (cond t (2 ^ 31 + c) (2 ^ 32 - c)) ≡ lt_z (cond s (pos b) (neg_ℤ (pos (b - 2 ^ 31)))) (cond t (pos c) (neg_ℤ (pos (c - 2 ^ 31))))
    go true true e f = both_up b c
    go true false e f = ap (ltb (2 ^ 31 + b)) (flip c (ltb-false c (2 ^ 31) f) C) ∙ up_down b (c - 2 ^ 31) (omega arith)
    go false true e f = ap (λ (z : ℕ). ltb z (2 ^ 31 + c)) (flip b (ltb-false b (2 ^ 31) e) B) ∙ down_up (b - 2 ^ 31) c (omega arith)
    go false false e f = ap₂ ltb (flip b (ltb-false b (2 ^ 31) e) B) (flip c (ltb-false c (2 ^ 31) f) C) ∙ both_down (b - 2 ^ 31) (c - 2 ^ 31) (omega arith) (omega arith)

pub order_lt : (x y : Float) → Number x → Number y → lt x y ≡ lt_z (order_number x) (order_number y)
unfolding order_number
order_lt x y X Y =
    orders_lt x y X Y
    ∙ ap₂ ltb (key_of_bits_lem x X.no_nan) (key_of_bits_lem y Y.no_nan)
    ∙ in_bits (to_bits binary32 x) (to_bits binary32 y) (to_bits-lt binary32 x X.held) (to_bits-lt binary32 y Y.held)

pub order_of_zero : (s : Bool) → order_number (fin s 0 (pos 0)) ≡ pos 0
unfolding order_number order_of_bits to_bits size
order_of_zero true = refl
order_of_zero false = refl
