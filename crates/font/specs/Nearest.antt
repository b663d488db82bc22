-- "A signed 16.16 number n becomes the single nearest to n/65536, ties to even significand": what these words say of a single, with no rule of rounding in it.
-- A finite single is plus or minus `num` / `den`, and distances are compared as fractions, multiplied out to whole numbers.
use Rattle.std.specs.Prelude.{◌≡◌, ℕ, ◌+◌, ◌-◌, ◌*◌, ◌%◌, ◌^◌, ◌≤◌, Bool, false, cond, T, leb, Float}
use Rattle.std.specs.Bool.{beq}
use Rattle.std.specs.Float.{nan, inf, fin, binary32}
use Rattle.std.specs.Float.Ieee.{fits, to_bits}
use Rattle.std.specs.Float.Ieee.Scale.{finite}
use Rattle.std.specs.Float.Ieee.Positive.{num, den}

-- a finite value's sign, true for minus
abbrev pub negative : Float → Bool
negative nan = false
negative (inf s) = s
negative (fin s m e) = s

-- the difference of two whole numbers, whichever is the larger
abbrev pub apart : ℕ → ℕ → ℕ
apart a b = (a - b) + (b - a)

-- the distance of ±a from ±b: of one sign the difference, of two signs the sum
abbrev pub gap : Bool → ℕ → Bool → ℕ → ℕ
gap s a t b = cond (beq s t) (apart a b) (a + b)

-- the distance of x from ±a / c, times c * den x
abbrev pub distance : Bool → ℕ → ℕ → Float → ℕ
distance s a c x = gap (negative x) (num x * c) s (a * den x)

-- r is the single nearest to ±a / c. No finite single is nearer, and where another is as near, r has an even significand: the lowest bit of its pattern, which is the significand's lowest digit, is 0.
pub record Nearest (s : Bool) (a c : ℕ) (r : Float) : Type 0 where
  pub single : T (fits binary32 r)
  pub number : T (finite r)
  pub sign : negative r ≡ s
  pub nearest : (y : Float) → T (fits binary32 y) → T (finite y) → distance s a c r * den y ≤ distance s a c y * den r
  pub even : (y : Float) → T (fits binary32 y) → T (finite y) → (y ≡ r → ⊥) → distance s a c r * den y ≡ distance s a c y * den r → to_bits binary32 r % 2 ≡ 0

-- the sign and the magnitude of n, the two's complement of 32 bits
abbrev pub below_zero : ℕ → Bool
below_zero n = leb (2 ^ 31) n

abbrev pub magnitude : ℕ → ℕ
magnitude n = cond (below_zero n) (2 ^ 32 - n) n

-- r is the single nearest to n / 65536
abbrev pub NearestFixed : ℕ → Float → Type 0
NearestFixed n r = Nearest (below_zero n) (magnitude n) 65536 r
