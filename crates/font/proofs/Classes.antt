-- Laws of the fields of OS/2 and `head`: the width classes, and the lowest bit.
use Prim.Native.Nat.{ℕ, zero, suc, ◌/◌, ◌%◌, ◌≤◌, ◌<◌}
use mathlib.Core.Path.{◌≡◌, refl, ◌∙◌}
use mathlib.Core.List.{List, [], ◌∷◌, map}
use native.Mathlib.Omega.{arith}
use native.Mathlib.Nat.{div-one}
use lib.ListN.{length, get_or, get_or-map, get_or-eq_default}
use lib.Dec.{eqb}
use lib.Ieee.{nan}
use Rattle.font.specs.StatedAttributes.{bit, thousandths, class_widths, width_of_class}

-- what stands past the end of a list is not read within it
inside {ℓ} : {A : Type ℓ} (l : List A) (n : ℕ) (d e : A) → n < length l → get_or l n d ≡ get_or l n e
inside [] n d e h = absurd (omega arith)
inside (x ∷ l) zero d e h = refl
inside (x ∷ l) (suc n) d e h = inside l n d e (omega arith)

pub listed : (class : ℕ) → class < 9 → get_or (map thousandths class_widths) class nan ≡ width_of_class class
unfolding width_of_class class_widths
listed class h =
    inside (map thousandths class_widths) class nan (thousandths 2000) h ∙ get_or-map thousandths class_widths class 2000

pub past : (class : ℕ) → 9 ≤ class → thousandths 2000 ≡ width_of_class class
unfolding width_of_class class_widths
past class h = rw (get_or-eq_default class_widths 2000 {n = class} h)

pub lowest : (n : ℕ) → bit 0 n ≡ eqb (n % 2) 1
unfolding bit
lowest n = rw (div-one n)

pub ninth : (n : ℕ) → bit 9 n ≡ eqb (n / 512 % 2) 1
unfolding bit
ninth n = refl
