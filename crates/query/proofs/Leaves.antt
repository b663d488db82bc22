-- What is known of each field that was read: its value, the next position, that it lies in the job, and that it passed its test.
use Prim.Native.Nat.{ℕ, ◌^◌, ◌≤◌, ◌<◌}
use mathlib.Core.Path.{◌≡◌, refl, ◌∙◌}
use mathlib.Core.Bool.{Bool, true, false}
use mathlib.Core.List.{List}
use native.Mathlib.Omega.{arith}
use lib.ListN.{length, get_or}
use lib.Dec.{leb, ltb, eqb}
use lib.Ieee.{Float, binary32, of_bits}
use lib.Ieee.Scale.{finite}
use Rattle.font.specs.Single.{accepted_ratio}
use Rattle.font.specs.Tables.{u16_at, u32_at}
use Rattle.std.specs.Prelude.{Ok}
use Rattle.query.specs.Reader.{At, end_in}
use Rattle.query.specs.Reader.{Reader, over_limit, not_held, no_face, unknown, bad_number, got, done, ◌>>=◌, many, ended}
use Rattle.query.specs.Fields.{byte, half, word, single, ratio, value, count, counted, held_byte, face_number, mask, kind, spare_byte, spare_word, or_spare}
use Rattle.query.specs.Sizes.{most_bytes, most_places}
use Rattle.query.specs.Entries.{read_face, read_override, read_family, read_request}
use Rattle.query.specs.Sections.{Section, Faces, Overrides, Families, Requests, Entry, read_entry}
use Rattle.query.proofs.Ends.{Read, field_read, tested_read, ends, then_got, got_there, many_length}

abbrev pub byte_at : List ℕ → ℕ → ℕ
byte_at s p = get_or s p 0

abbrev pub single_at : List ℕ → ℕ → Float
single_at s p = of_bits binary32 (u32_at s p)

abbrev pub all : {A : Type 0} → A → Bool
all a = true

pub byte_read : (s : List ℕ) (p a q : ℕ) → byte s p ≡ got a q → Read 1 byte_at all s p a q
unfolding byte
byte_read s p a q e = field_read 1 byte_at s p a q e

pub half_read : (s : List ℕ) (p a q : ℕ) → half s p ≡ got a q → Read 2 u16_at all s p a q
unfolding half
half_read s p a q e = field_read 2 u16_at s p a q e

pub word_read : (s : List ℕ) (p a q : ℕ) → word s p ≡ got a q → Read 4 u32_at all s p a q
unfolding word
word_read s p a q e = field_read 4 u32_at s p a q e

pub ratio_read : (s : List ℕ) (p : ℕ) (a : Float) (q : ℕ) → ratio s p ≡ got a q → Read 4 single_at accepted_ratio s p a q
unfolding ratio single
ratio_read s p a q e = tested_read bad_number accepted_ratio 4 single_at s p a q e

pub value_read : (s : List ℕ) (p : ℕ) (a : Float) (q : ℕ) → value s p ≡ got a q → Read 4 single_at finite s p a q
unfolding value single
value_read s p a q e = tested_read bad_number finite 4 single_at s p a q e

pub count_read : (limit : ℕ) (s : List ℕ) (p a q : ℕ) → count limit s p ≡ got a q → Read 2 u16_at (λ n. leb n limit) s p a q
unfolding count half
count_read limit s p a q e = tested_read over_limit (λ n. leb n limit) 2 u16_at s p a q e

pub held_read : (s : List ℕ) (p a q : ℕ) → held_byte s p ≡ got a q → Read 1 byte_at (λ b. leb b 1) s p a q
unfolding held_byte byte
held_read s p a q e = tested_read not_held (λ b. leb b 1) 1 byte_at s p a q e

pub face_number_read : (n : ℕ) (s : List ℕ) (p a q : ℕ) → face_number n s p ≡ got a q → Read 2 u16_at (λ i. ltb i n) s p a q
unfolding face_number half
face_number_read n s p a q e = tested_read no_face (λ i. ltb i n) 2 u16_at s p a q e

pub mask_read : (s : List ℕ) (p a q : ℕ) → mask s p ≡ got a q → Read 1 byte_at (λ m. leb m 7) s p a q
unfolding mask byte
mask_read s p a q e = tested_read unknown (λ m. leb m 7) 1 byte_at s p a q e

pub kind_read : (s : List ℕ) (p a q : ℕ) → kind s p ≡ got a q → Read 1 byte_at (λ k. leb k 3) s p a q
unfolding kind byte
kind_read s p a q e = tested_read unknown (λ k. leb k 3) 1 byte_at s p a q e

pub spare_byte_read : (s : List ℕ) (p a q : ℕ) → spare_byte s p ≡ got a q → Read 1 byte_at (λ b. eqb b 0) s p a q
unfolding spare_byte byte
spare_byte_read s p a q e = tested_read unknown (λ b. eqb b 0) 1 byte_at s p a q e

pub spare_word_read : (s : List ℕ) (p a q : ℕ) → spare_word s p ≡ got a q → Read 4 u32_at (λ b. eqb b 0) s p a q
unfolding spare_word word
spare_word_read s p a q e = tested_read unknown (λ b. eqb b 0) 4 u32_at s p a q e

-- how a number that may be spare ends
pub or_spare_ends : {A B : Type 0} {a : At} (b c : Bool) (none : B) (r : Reader A) (f : A → B) (s : List ℕ) (p : ℕ)
    → b ≡ c → (b ≡ true → a ≡ ended (r s p)) → (b ≡ false → a ≡ ended (spare_word s p)) → a ≡ ended (or_spare c none (r >>= λ v. done (f v)) s p)
unfolding or_spare
or_spare_ends b true none r f s p h given spare = ends r f s p (given h)
or_spare_ends b false none r f s p h given spare = ends spare_word (λ v. none) s p (spare h)

-- entries after a 16-bit count are as many as it says
pub counted_length : {A : Type 0} (limit : ℕ) (r : Reader A) (s : List ℕ) (p : ℕ) (xs : List A) (q : ℕ) → counted limit r s p ≡ got xs q → length xs ≡ u16_at s p
unfolding counted
counted_length limit r s p xs q e =
    let h = then_got (count limit) (λ n. many n r) s p xs q e in
    many_length r h.0 s h.1 xs q h.3 ∙ (count_read limit s p h.0 h.1 h.2).value

-- an entry begins in the job
pub entry_starts : (section : Section) (s : List ℕ) (p : ℕ) (a : Entry section) (q : ℕ) → read_entry section s p ≡ got a q → p < length s
unfolding read_face read_override read_family read_request counted
entry_starts Faces s p a q e = let h = then_got held_byte _ s p a q e in omega (arith, (held_read s p h.0 h.1 h.2).inside)
entry_starts (Overrides n) s p a q e = let h = then_got (face_number n) _ s p a q e in omega (arith, (face_number_read n s p h.0 h.1 h.2).inside)
entry_starts (Families n) s p a q e =
    let g = then_got (counted most_places (face_number n)) _ s p a q e in
    let h = then_got (count most_places) _ s p g.0 g.1 g.2 in
    omega (arith, (count_read most_places s p h.0 h.1 h.2).inside)
entry_starts Requests s p a q e = let h = then_got half _ s p a q e in omega (arith, (half_read s p h.0 h.1 h.2).inside)

-- at a position of 32 bits
pub entry_begins : (section : Section) (s : List ℕ) (p q : ℕ) → length s ≤ most_bytes → end_in (Ok q) ≡ ended (read_entry section s p) → p < 2 ^ 32
unfolding end_in
entry_begins section s p q l e = let r = got_there e refl in omega (arith, entry_starts section s p r.0 _ r.1)
