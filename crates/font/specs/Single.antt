-- Section 1: single-precision numbers. A single is a value of `lib.Ieee`, the logic's account of IEEE 754, that the format `binary32` holds.
use Rattle.std.specs.Prelude.{ℕ, ◌+◌, ◌-◌, ◌*◌, ◌/◌, ◌^◌, min, Bool, true, false, ◌&&◌, cond, ltb, ℤ, pos, neg_ℤ, Float}
use Rattle.std.specs.Float.{nan, inf, fin, binary32}
use Rattle.std.specs.Float.Ieee.{of_int, to_bits, is_nan, round, mul, to_unsigned, up, down, le}

-- a whole number as a single
unfoldable pub single : ℕ → Float
single n = of_int binary32 (pos n)

-- "The order number: the bits if below 2^31, else minus (bits minus 2^31)."
unfoldable pub order_of_bits : ℕ → ℤ
order_of_bits b = cond (ltb b (2 ^ 31)) (pos b) (neg_ℤ (pos (b - 2 ^ 31)))

unfoldable pub order_number : Float → ℤ
order_number x = order_of_bits (to_bits binary32 x)

-- The order number raised by 2^31, which is how the code carries it. A NaN has no order number, and the code gives it 0.
unfoldable pub key_of_bits : ℕ → ℕ
key_of_bits b = cond (ltb b (2 ^ 31)) (2 ^ 31 + b) (2 ^ 32 - b)

unfoldable pub order_key : Float → ℕ
order_key x = cond (is_nan x) 0 (key_of_bits (to_bits binary32 x))

-- "A signed 16.16 number n becomes the single nearest to n/65536, ties to even significand." n is given by its 32 bits, two's complement.
unfoldable pub fixed_to_single : ℕ → Float
fixed_to_single n = cond (ltb n (2 ^ 31)) (round binary32 false n 65536) (round binary32 true (2 ^ 32 - n) 65536)

-- The magnitude without its fraction, at most 2^32 - 1. A NaN gives 0.
unfoldable pub whole_of : Float → ℕ
whole_of nan = 0
whole_of (inf s) = 2 ^ 32 - 1
whole_of (fin s m e) = min (m * up e / down e) (2 ^ 32 - 1)

-- "The whole percent is the ratio times 100, rounded once to single, then truncated." It is held to 0 to 2^32 - 1, as Rust's `as` holds it; a NaN gives 0.
unfoldable pub whole_percent : Float → ℕ
whole_percent ratio = to_unsigned 32 (mul binary32 ratio (single 100))

-- "Width ratios are 0 to 16."
unfoldable pub accepted_ratio : Float → Bool
accepted_ratio x = le (single 0) x && le x (single 16)
