-- The order numbers of the angles and weights that section 4 names, as the code has them.
use mathlib.Core.Path.{◌≡◌, refl}
use lib.Ieee.{binary32, of_int, of_bits, round, neg, to_bits, is_nan}
use Rattle.font.specs.Single.{single, order_key, key_of_bits}
use Rattle.matching.specs.Order.{zero_angle, fourteen, minus_fourteen, four_hundred, five_hundred}

pub zero_angle_lem : zero_angle ≡ 0x8000_0000
unfolding zero_angle order_key key_of_bits single of_int round to_bits is_nan
zero_angle_lem = refl

pub fourteen_is : fourteen ≡ 0xC160_0000
unfolding fourteen order_key key_of_bits single of_int round to_bits is_nan
fourteen_is = refl

pub minus_fourteen_lem : minus_fourteen ≡ 0x3EA0_0000
unfolding minus_fourteen order_key key_of_bits single of_int round to_bits is_nan neg
minus_fourteen_lem = refl

pub four_hundred_lem : four_hundred ≡ 0xC3C8_0000
unfolding four_hundred order_key key_of_bits single of_int round to_bits is_nan
four_hundred_lem = refl

pub five_hundred_lem : five_hundred ≡ 0xC3FA_0000
unfolding five_hundred order_key key_of_bits single of_int round to_bits is_nan
five_hundred_lem = refl

-- whole numbers as singles, as the code has them
pub single_0 : single 0 ≡ of_bits binary32 0
unfolding single of_int round of_bits
single_0 = refl

pub single_1 : single 1 ≡ of_bits binary32 0x3F80_0000
unfolding single of_int round of_bits
single_1 = refl

pub single_14 : single 14 ≡ of_bits binary32 0x4160_0000
unfolding single of_int round of_bits
single_14 = refl

pub single_100 : single 100 ≡ of_bits binary32 0x42C8_0000
unfolding single of_int round of_bits
single_100 = refl

pub single_200 : single 200 ≡ of_bits binary32 0x4348_0000
unfolding single of_int round of_bits
single_200 = refl
