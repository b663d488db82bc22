-- Which bit patterns of a single are finite, and that an accepted ratio is. Assumes nothing.
use Prim.Native.Nat.{ℕ, zero, suc, ◌+◌, ◌/◌, ◌%◌, ◌<◌}
use mathlib.Core.Path.{◌≡◌, refl, sym, ◌∙◌}
use mathlib.Core.Bool.{Bool, true, false, not, cond}
use native.Mathlib.Omega.{arith}
use lib.Dec.{ltb, eqb}
use lib.Ieee.{Float, nan, inf, fin, binary32, odd, is_nan, of_fields, of_bits, nan_bits, hid, le, lt, eq}
use lib.Ieee.Scale.{finite}
use lib.Ieee.Bits.{nan_bits_is}
use borrow.Author.Tests.{ltb-true, ltb-false, eq-eqb, ne_eqb}
use Rattle.font.specs.Single.{single, accepted_ratio}

odd_finite : (d : ℕ) (s : Bool) (q k l : ℕ) → finite (odd d s q k l) ≡ true
unfolding odd
odd_finite d s zero k l = refl
odd_finite d s (suc q) k l = refl

fields_finite : (s : Bool) (x t : ℕ) → finite (of_fields binary32 s x t) ≡ not (eqb x 255)
unfolding of_fields
fields_finite s zero t = odd_finite 24 s t 0 149
fields_finite s (suc x) t = go (eqb (suc x) 255) (eqb t 0)
  where
    go : (a b : Bool) → finite (cond a (cond b (inf s) nan) (odd 24 s (hid binary32 + t) x 149)) ≡ not a
    go true true = refl
    go true false = refl
    go false b = odd_finite 24 s (hid binary32 + t) x 149

-- the exponent's field is not all ones
under : (m x : ℕ) → m < 0x80000000 → x ≡ m / 0x800000 → ltb m 0x7F800000 ≡ not (eqb x 255)
under m x l e = go (ltb m 0x7F800000) refl
  where
    go : (b : Bool) → ltb m 0x7F800000 ≡ b → b ≡ not (eqb x 255)
    go true t = rw (ne_eqb x 255 (λ h. omega (arith, ltb-true m 0x7F800000 t)))
    go false t = rw (eq-eqb x 255 (omega (arith, ltb-false m 0x7F800000 t)))

pub bits_finite : (b : ℕ) → ltb (b % 0x80000000) 0x7F800000 ≡ finite (of_bits binary32 b)
unfolding of_bits
bits_finite b =
    under (b % 0x80000000) (b % 0x80000000 / 0x800000) (omega arith) refl
    ∙ sym (fields_finite _ (b % 0x80000000 / 0x800000) _)

no_nan : (x : Float) → finite x ≡ true → is_nan x ≡ false
unfolding is_nan
no_nan nan e = sym e
no_nan (inf s) e = refl
no_nan (fin s m k) e = refl

pub finite_no_nan : (b : ℕ) → finite (of_bits binary32 b) ≡ true → nan_bits binary32 b ≡ false
finite_no_nan b e = nan_bits_is binary32 b ∙ no_nan (of_bits binary32 b) e

pub ratio_finite : (x : Float) → finite x ≡ false → false ≡ accepted_ratio x
unfolding accepted_ratio single le lt eq lib.Ieee.of_int
ratio_finite nan e = refl
ratio_finite (inf true) e = refl
ratio_finite (inf false) e = refl
ratio_finite (fin s m k) e = sym e ∙ absurd (let z : true ≡ false = e in let y : ◌≡◌ {A = ℕ} 0 1 = cc in omega arith)

pub accepted_finite : (x : Float) → accepted_ratio x ≡ true → finite x ≡ true
accepted_finite x e = go (finite x) refl
  where
    go : (b : Bool) → finite x ≡ b → finite x ≡ true
    go true h = h
    go false h = absurd (let z : false ≡ true = ratio_finite x h ∙ e in let y : ◌≡◌ {A = ℕ} 0 1 = cc in omega arith)
