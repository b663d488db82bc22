-- The code's float literals, which a proof meets by their bits, and std's test for a number, in the words of specs/. Assumes nothing.
use mathlib.Core.Path.{◌≡◌, refl}
use lib.Ieee.{Float, nan, inf, fin, binary32, of_bits, of_int, round}
use lib.Ieee.Scale.{finite}
use Rattle.std.specs.Float.{float_is_finite}
use Rattle.font.specs.Single.{single}

pub zero : of_bits binary32 0 ≡ single 0
unfolding single of_int of_bits round
zero = refl

pub one : of_bits binary32 0x3f80_0000 ≡ single 1
unfolding single of_int of_bits round
one = refl

pub sixteen : of_bits binary32 0x4180_0000 ≡ single 16
unfolding single of_int of_bits round
sixteen = refl

pub hundred : of_bits binary32 0x42c8_0000 ≡ single 100
unfolding single of_int of_bits round
hundred = refl

pub four_hundred : of_bits binary32 0x43c8_0000 ≡ single 400
unfolding single of_int of_bits round
four_hundred = refl

pub ruleset literals = (zero, one, sixteen, hundred, four_hundred)

pub is_finite : (x : Float) → float_is_finite x ≡ finite x
unfolding float_is_finite
is_finite nan = refl
is_finite (inf s) = refl
is_finite (fin s m e) = refl
