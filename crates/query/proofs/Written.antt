-- Bytes that are put one after the other, and the bytes of a number and of a flag as the library gives them.
use Prim.Native.Nat.{ℕ, ◌/◌, ◌%◌, ◌<◌}
use mathlib.Core.Path.{◌≡◌, refl, ◌∙◌, ap}
use mathlib.Core.Bool.{Bool, true, false}
use mathlib.Core.List.{List, [], ◌∷◌, ◌++◌}
use native.Mathlib.Omega.{arith}
use Rattle.std.specs.Int.{w16, w32, to_be_bytes, from_bool}
use Rattle.query.specs.Layout.{bytes16, bytes32}
use Rattle.query.specs.Record.{flag}

-- what was put before, and what is put then
pub put_on : {now was xs ys zs : List ℕ} → now ≡ was ++ ys → was ≡ xs → ys ≡ zs → now ≡ xs ++ zs
put_on after before same = after ∙ (λ t. before t ++ same t)

pub half_bytes : (n : ℕ) → n < 65536 → to_be_bytes w16 n ≡ bytes16 n
unfolding bytes16
half_bytes n l =
    let high : n / 256 % 256 ≡ n / 256 = omega arith in
    ap (λ (h : ℕ). h ∷ n % 256 ∷ []) high

pub word_bytes : (n : ℕ) → n < 4294967296 → to_be_bytes w32 n ≡ bytes32 n
unfolding bytes32 bytes16
word_bytes n l =
    let first : n / 16777216 % 256 ≡ n / 65536 / 256 = omega arith in
    let second : n / 65536 % 256 ≡ n / 65536 % 256 = refl in
    let third : n / 256 % 256 ≡ n % 65536 / 256 = omega arith in
    let last : n % 256 ≡ n % 65536 % 256 = omega arith in
    λ k. first k ∷ second k ∷ third k ∷ last k ∷ []

pub flag_byte : (b : Bool) → from_bool b ≡ flag b
unfolding flag
flag_byte true = refl
flag_byte false = refl
