-- The two's complement of a signed number of 8 bits is its bits as an unsigned one.
use mathlib.Core.Path.{◌≡◌, refl}
use native.Mathlib.Omega.{arith}
use lib.IntN.{ℤ, pos, negsuc}
use Rattle.std.specs.Int.{w8, cast_unsigned}
use Rattle.query.specs.Record.{twos_complement}

pub skew_byte : (z : ℤ) → cast_unsigned w8 z ≡ twos_complement z
unfolding twos_complement
skew_byte (pos n) = refl
skew_byte (negsuc n) = omega arith
