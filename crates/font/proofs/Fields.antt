-- Laws of big-endian fields: what a field is where it lies whole in the bytes, and where it does not.
use Prim.Native.Nat.{ℕ, ◌+◌, ◌*◌, ◌/◌, ◌%◌, ◌^◌, ◌≤◌, ◌<◌}
use mathlib.Core.Path.{◌≡◌, ap, ◌∙◌}
use mathlib.Core.List.{List, [], ◌∷◌}
use lib.ListN.{length, get_or}
use borrow.Author.Tests.{le-leb, lt-leb}
use native.Mathlib.Omega.{arith}
use Rattle.std.specs.Int.{w32, from_be_bytes, from_le_bytes}
use Rattle.std.specs.Int.{swap_bytes as turn}
use Rattle.font.specs.Tables.{u16_at, u32_at, swap_pair, swap_bytes}

pub in16 : (s : List ℕ) (at : ℕ) → at + 2 ≤ length s → get_or s at 0 * 256 + get_or s (at + 1) 0 ≡ u16_at s at
unfolding u16_at
in16 s at h = simp (le-leb (at + 2) (length s) h)

pub out16 : (s : List ℕ) (at : ℕ) → length s < at + 2 → 0 ≡ u16_at s at
unfolding u16_at
out16 s at h = simp (lt-leb (at + 2) (length s) h)

pub in32 : (s : List ℕ) (at : ℕ) → at + 4 ≤ length s → u16_at s at * 65536 + u16_at s (at + 2) ≡ u32_at s at
unfolding u32_at
in32 s at h = simp (le-leb (at + 4) (length s) h)

pub out32 : (s : List ℕ) (at : ℕ) → length s < at + 4 → 0 ≡ u32_at s at
unfolding u32_at
out32 s at h = simp (lt-leb (at + 4) (length s) h)

-- ---- bytes in the opposite order

pub swapped_pair : (a b : ℕ) → b < 256 → a + b * 256 ≡ swap_pair (a * 256 + b)
unfolding swap_pair
swapped_pair a b l = omega arith

pub swapped_halves : (h l : ℕ) → l < 65536 → swap_pair h + swap_pair l * 65536 ≡ swap_bytes (h * 65536 + l)
unfolding swap_bytes
swapped_halves h l m =
    let high : (h * 65536 + l) / 65536 ≡ h = omega arith in
    let low : (h * 65536 + l) % 65536 ≡ l = omega arith in
    rw (high, low)

pair_low : (n : ℕ) → n < 65536 → swap_pair n < 65536
unfolding swap_pair
pair_low n l = omega arith

pair_apart : (m n : ℕ) → m < 65536 → n < 65536 → swap_pair m ≡ swap_pair n → m ≡ n
unfolding swap_pair
pair_apart m n k l e = omega arith

-- no two numbers of 32 bits become one
pub swapped_apart : (m n : ℕ) → m < 2 ^ 32 → n < 2 ^ 32 → swap_bytes m ≡ swap_bytes n → m ≡ n
unfolding swap_bytes
swapped_apart m n k l e =
    let low-m = pair_low (m / 65536) (omega arith) in
    let low-n = pair_low (n / 65536) (omega arith) in
    let rest-m = pair_low (m % 65536) (omega arith) in
    let rest-n = pair_low (n % 65536) (omega arith) in
    let high = pair_apart (m / 65536) (n / 65536) (omega arith) (omega arith) (omega (arith, low-m, low-n, rest-m, rest-n, e)) in
    let low = pair_apart (m % 65536) (n % 65536) (omega arith) (omega arith) (omega (arith, low-m, low-n, rest-m, rest-n, e)) in
    omega (arith, high, low)

-- ---- four bytes at once

-- the lemmas speak of the two halves
next : (s : List ℕ) (at : ℕ) → get_or s (at + 2 + 1) 0 ≡ get_or s (at + 3) 0
next s at = let e : at + 2 + 1 ≡ at + 3 = omega arith in ap (λ (n : ℕ). get_or s n 0) e

pub be32 : (s : List ℕ) (at : ℕ) → at + 4 ≤ length s
    → from_be_bytes w32 (get_or s at 0 ∷ get_or s (at + 1) 0 ∷ get_or s (at + 2) 0 ∷ get_or s (at + 3) 0 ∷ []) ≡ u32_at s at
be32 s at h = omega (arith, in32 s at h, in16 s at (omega arith), in16 s (at + 2) (omega arith), next s at)

pub le32 : (s : List ℕ) (at : ℕ) → at + 4 ≤ length s → ((i : ℕ) → get_or s i 0 < 256)
    → from_le_bytes w32 (get_or s at 0 ∷ get_or s (at + 1) 0 ∷ get_or s (at + 2) 0 ∷ get_or s (at + 3) 0 ∷ []) ≡ swap_bytes (u32_at s at)
le32 s at h byte =
    let high = swapped_pair (get_or s at 0) (get_or s (at + 1) 0) (byte (at + 1)) in
    let low = swapped_pair (get_or s (at + 2) 0) (get_or s (at + 3) 0) (byte (at + 3)) in
    let halves =
    swapped_halves (get_or s at 0 * 256 + get_or s (at + 1) 0) (get_or s (at + 2) 0 * 256 + get_or s (at + 3) 0)
    (omega (arith, byte (at + 2), byte (at + 3))) in
    let field : get_or s at 0 * 16777216 + get_or s (at + 1) 0 * 65536 + get_or s (at + 2) 0 * 256 + get_or s (at + 3) 0 ≡ u32_at s at = be32 s at h in
    let same : (get_or s at 0 * 256 + get_or s (at + 1) 0) * 65536 + (get_or s (at + 2) 0 * 256 + get_or s (at + 3) 0) ≡ u32_at s at = omega (arith, field) in
    omega (arith, high, low, halves ∙ ap swap_bytes same)

pub below32 : (s : List ℕ) (at : ℕ) → at + 4 ≤ length s → ((i : ℕ) → get_or s i 0 < 256) → u32_at s at < 2 ^ 32
below32 s at h byte =
    omega
    (arith, in32 s at h, in16 s at (omega arith), in16 s (at + 2) (omega arith), byte at, byte (at + 1), byte (at + 2), byte (at + 2 + 1))

-- a number of 32 bits, turned
pub turned : (n : ℕ) → n < 2 ^ 32 → turn w32 n ≡ swap_bytes n
unfolding swap_bytes swap_pair
turned n l = omega arith
