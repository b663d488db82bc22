-- What the reader of a face or of an override reads is what lies at its position; and so of the numbers and styles in them.
use Rattle.std.specs.Prelude.{None, Some}
use Prim.Native.Nat.{ℕ, suc, ◌+◌, ◌*◌, ◌≤◌, ◌<◌}
use mathlib.Core.Path.{◌≡◌, refl, ap, ◌∙◌}
use mathlib.Core.Bool.{Bool, true, false, cond}
use mathlib.Core.List.{List, ◌∷◌}
use native.Mathlib.Omega.{arith}
use lib.Dec.{leb, ltb, eqb}
use lib.Ieee.{Float, binary32, of_bits}
use lib.Ieee.Scale.{finite}
use lib.ListN.{length, get_or, take, drop}
use borrow.Author.Tests.{leb-true, ltb-true, eqb-true}
use Rattle.font.specs.declared.attributes.Angle.TheVariants.{Unstated, Degrees}
use Rattle.font.specs.declared.attributes.FontStyle.{FontStyle}
use Rattle.font.specs.Tables.{u16_at, u32_at}
use Rattle.font.specs.Collection.{is_collection, header_fits, font_count}
use Rattle.font.specs.StatedAttributes.{bit}
use Rattle.font.specs.Font.{font_refusal}
use Rattle.font.proofs.FiniteBits.{accepted_finite}
use Rattle.query.specs.declared.fields.Behind.{Behind}
use Rattle.query.specs.Sections.{Faces}
use Rattle.query.specs.Sizes.{face_head, font_number_size, override_head, pair_size}
use Rattle.query.specs.Reader.{Refusal, past_end, bad_directory, no_font, Reader, refused, got, done, field, tested, many, ◌>>=◌}
use Rattle.query.specs.Fields.{byte, half, word, ratio, value, byte_counted, held_byte, face_number, mask, kind, spare_byte, spare_word, or_spare, NumberedFont, font_row, font_bytes, sized_file, number_below, refused_at, font_number, font_taken, numbered, font_file}
use Rattle.query.specs.Entries.{Face, Override, read_face, read_angle, read_style, read_width, read_weight, style_or_spare, read_given, read_pair, read_override}
use Rattle.query.specs.Positions.{LiesAt}
use Rattle.query.specs.Values.{number_at, style_at, file_at, file_end, number_behind, behind_number, behind_file, face_at, face_end, given_at, pair_at, pairs_at, override_at, override_end}
use Rattle.query.proofs.Ends.{Read, ReadsAt, tested_read, then_got, then_at, then_read, same_got}
use Rattle.query.proofs.Leaves.{byte_read, word_read, ratio_read, value_read, held_read, face_number_read, mask_read, kind_read, spare_byte_read, spare_word_read, entry_starts}
use Rattle.query.proofs.EvenEntries.{many_even}

-- ---- numbers and styles

-- the bits of a finite number
pub number_is : (s : List ℕ) (p : ℕ) (x : Float) → x ≡ of_bits binary32 (u32_at s p) → finite x ≡ true → x ≡ number_at s p
unfolding number_at
number_is s p x e f =
    let there : finite (of_bits binary32 (u32_at s p)) ≡ true = rw e at f in
    rw there e

pub ratio_at : (s : List ℕ) (p : ℕ) (x : Float) (q : ℕ) → ratio s p ≡ got x q → (x ≡ number_at s p) × (q ≡ p + 4)
ratio_at s p x q e =
    let r = ratio_read s p x q e in
    (number_is s p x r.value (accepted_finite x r.passed), r.next)

pub value_at : (s : List ℕ) (p : ℕ) (x : Float) (q : ℕ) → value s p ≡ got x q → (x ≡ number_at s p) × (q ≡ p + 4)
value_at s p x q e =
    let r = value_read s p x q e in
    (number_is s p x r.value r.passed, r.next)

-- the value and the end of a field
pub field_at : {A : Type 0} {n : ℕ} {v : List ℕ → ℕ → A} {ok : A → Bool} {s : List ℕ} {p : ℕ} {a : A} {q : ℕ}
    → Read n v ok s p a q → (a ≡ v s p) × (q ≡ p + n)
field_at r = (r.value, r.next)

or_spare_at : {A : Type 0} (none : A) (r : Reader Float) (f : Float → A) (s : List ℕ) (p : ℕ)
    → ReadsAt r s p (number_at s p) (p + 4)
    → (b : Bool) → ReadsAt (or_spare b none (r >>= λ x. done (f x))) s p (cond b (f (number_at s p)) none) (p + 4)
unfolding or_spare done
or_spare_at none r f s p reads true w q e = same_got (then_at r _ (p + 4) reads refl e)
or_spare_at none r f s p reads false w q e = same_got (then_read spare_word _ (p + 4) (spare_word_read s p) refl e)

pub style_at_lem : (s : List ℕ) (p : ℕ) (x : FontStyle) (q : ℕ) → read_style s p ≡ got x q → (x ≡ style_at s p) × (q ≡ p + 5)
unfolding read_style read_angle done style_at
style_at_lem s p x q e =
    let k = then_read kind _ (p + 1) (kind_read s p) refl e in
    let stated = eqb (get_or s p 0) 3 in
    same_got (then_at (or_spare stated Unstated read_angle) _ (p + 5) (or_spare_at Unstated value (λ v. Degrees v) s (p + 1) (value_at s (p + 1)) stated) (omega arith) k)

style_given_at : (b : Bool) (s : List ℕ) (p : ℕ) → ReadsAt (style_or_spare b) s p (cond b (Some (style_at s p)) None) (p + 5)
unfolding style_or_spare done
style_given_at true s p w q e = same_got (then_at read_style _ (p + 5) (style_at_lem s p) refl e)
style_given_at false s p w q e =
    let k = then_read spare_byte _ (p + 1) (spare_byte_read s p) refl e in
    same_got (then_read spare_word _ (p + 5) (spare_word_read s (p + 1)) (omega arith) k)

-- ---- entries of one kind

-- of some entries that are left, the next, which can be read in one way alone, and the others
pub record Next {A : Type 0} (r : Reader A) (m : ℕ) (s : List ℕ) (place : ℕ) (v : A) (next : ℕ) (xs : List A) : Type 0 where
  pub rest : List A
  pub read : r s place ≡ got v next
  pub are : xs ≡ v ∷ rest
  pub left : LiesAt (many m r) s next rest

next_of : {A : Type 0} (r : Reader A) (m : ℕ) (s : List ℕ) (place : ℕ) {v : A} {next : ℕ} (xs : List A) → ReadsAt r s place v next
    → LiesAt (many (suc m) r) s place xs → Next r m s place v next xs
unfolding many done
next_of r m s place {v} {next} xs reads lies =
    let first = then_got r _ s place xs lies.end lies.read in
    let is = reads first.0 first.1 first.2 in
    let others = then_got (many m r) _ s next xs lies.end (then_at r _ next reads refl lies.read) in
    record {
      rest = others.0;
      read = first.2 ∙ (λ k. got (is.0 k) (is.1 k));
      are = (same_got {a = v ∷ others.0} others.3).0;
      left = record { end = others.1; read = others.2 };
    }

-- ---- faces

bytes_at_lem : (place n : ℕ) (s : List ℕ) (p : ℕ) → ReadsAt (font_bytes place n) s p (take n (drop p s)) (p + n)
unfolding font_bytes
bytes_at_lem place n s p x q = go (leb (p + n) (length s))
  where
    go : (b : Bool) → cond b (got (take n (drop p s)) (p + n)) (refused past_end place) ≡ got x q → (x ≡ take n (drop p s)) × (q ≡ p + n)
    go true e = same_got e
    go false e = absurd (let z : ◌≡◌ {A = ℕ} 0 1 = cc in omega arith)

-- the number behind a face's file
pub number_there : (s file : List ℕ) (p : ℕ) {end : ℕ} {b : Behind} → b ≡ behind_file s end file → end ≡ file_end s p → b.number ≡ number_behind s (file_end s p) file
number_there s file p e l = ap (λ (b : Behind). b.number) e ∙ ap (λ (q : ℕ). number_behind s q file) l

-- a font's length and bytes
pub sized_at : (s : List ℕ) (p next : ℕ) → p + 4 ≡ next → ReadsAt sized_file s p (take (u32_at s p) (drop next s)) (next + u32_at s p)
unfolding sized_file
sized_at s p next same x q e =
    let n = then_read word _ next (word_read s p) same e in
    bytes_at_lem p (u32_at s p) s next x q n

pub sized_in : (s : List ℕ) (p : ℕ) (x : List ℕ) (q : ℕ) → sized_file s p ≡ got x q → (q ≡ p + 4 + u32_at s p) × (q ≤ length s)
unfolding sized_file font_bytes
sized_in s p x q e =
    let n = then_read word _ (p + 4) (word_read s p) refl e in
    go (leb (p + 4 + u32_at s p) (length s)) refl n
  where
    go : (b : Bool) → leb (p + 4 + u32_at s p) (length s) ≡ b
        → cond b (got (take (u32_at s p) (drop (p + 4) s)) (p + 4 + u32_at s p)) (refused past_end p) ≡ got x q → (q ≡ p + 4 + u32_at s p) × (q ≤ length s)
    go true l r = let is = same_got r in (is.1, omega (arith, is.1, leb-true (p + 4 + u32_at s p) (length s) l))
    go false l r = absurd (let z : ◌≡◌ {A = ℕ} 0 1 = cc in omega arith)

-- the number behind a file, and that it is one of the file's fonts
pub number_at_lem : (place : ℕ) (file s : List ℕ) (p i q : ℕ) → font_number place file s p ≡ got i q
    → (i ≡ number_behind s p file) × (q ≡ behind_number file p) × (i < font_count file)
unfolding font_number number_below refused_at half done number_behind behind_number font_count
number_at_lem place file s p i q = go (is_collection file) (header_fits file)
  where
    go : (a b : Bool)
        → cond a (cond b (tested no_font (λ k. ltb k (cond a (u32_at file 8) 1)) (field 2 u16_at)) (refused_at bad_directory place)) (done 0) s p ≡ got i q
        → (i ≡ cond a (u16_at s p) 0) × (q ≡ cond a (p + font_number_size) p) × (i < cond a (u32_at file 8) 1)
    go true true e =
        let r = tested_read no_font (λ k. ltb k (u32_at file 8)) 2 u16_at s p i q e in
        (r.value, r.next, ltb-true i (u32_at file 8) r.passed)
    go true false e = absurd (let z : ◌≡◌ {A = ℕ} 0 1 = cc in omega arith)
    go false b e = let is = same_got e in (is.0, is.1, omega (arith, is.0))

-- a font that is taken is not refused
taken_at : (place : ℕ) (font : NumberedFont) (s : List ℕ) (p : ℕ) (x : NumberedFont) (q : ℕ) → font_taken place font s p ≡ got x q
    → (x ≡ font) × (q ≡ p) × (font_refusal x.file x.number ≡ 0)
unfolding font_taken
taken_at place font s p x q = go (eqb (font_refusal font.file font.number) 0) refl (font_row (font_refusal font.file font.number))
  where
    go : (b : Bool) → eqb (font_refusal font.file font.number) 0 ≡ b → (w : Refusal) → cond b (got font p) (refused w place) ≡ got x q
        → (x ≡ font) × (q ≡ p) × (font_refusal x.file x.number ≡ 0)
    go true t w e =
        let same : x ≡ font = cc in
        (same, cc, rw same (eqb-true (font_refusal font.file font.number) 0 t))
    go false t w e = absurd (let z : ◌≡◌ {A = ℕ} 0 1 = cc in omega arith)

font_at : (s : List ℕ) (p next : ℕ) (x : NumberedFont) (q : ℕ) → p + 4 ≡ next → font_file s p ≡ got x q
    → let file = take (u32_at s p) (drop next s) in
    (x ≡ record { file = file; number = number_behind s (next + u32_at s p) file }) × (q ≡ behind_number file (next + u32_at s p)) × (font_refusal x.file x.number ≡ 0)
    × (next + u32_at s p ≤ length s)
unfolding font_file numbered
font_at s p next x q same e =
    let file = take (u32_at s p) (drop next s) in
    let first = then_got sized_file (numbered p) s p x q e in
    let size = sized_in s p first.0 first.1 first.2 in
    let sized = then_at sized_file (numbered p) (next + u32_at s p) (sized_at s p next same) refl e in
    let number = then_got (font_number p file) _ s (next + u32_at s p) x q sized in
    let is = number_at_lem p file s (next + u32_at s p) number.0 number.1 number.2 in
    let taken = taken_at p _ s number.1 x q number.3 in
    (taken.0 ∙ ap (λ (i : ℕ). record { file = file; number = i }) is.0, taken.1 ∙ is.1, taken.2, omega (arith, size.0, size.1, same))

pub face_at_lem : (s : List ℕ) (p : ℕ) (f : Face) (q : ℕ) → read_face s p ≡ got f q
    → (f ≡ face_at s p) × (q ≡ face_end s p) × (font_refusal f.font.file f.font.number ≡ 0) × (p < length s) × (file_end s p ≤ length s)
unfolding read_face done face_at file_at
face_at_lem s p f q e =
    let held = then_read held_byte _ (p + 1) (held_read s p) refl e in
    let read = then_got font_file _ s (p + 1) f q held in
    let font = font_at s (p + 1) (p + face_head) read.0 read.1 (omega arith) read.2 in
    let is = same_got {a = record { held = eqb (get_or s p 0) 1; font = read.0 }} read.3 in (
      is.0 ∙ ap (λ (x : NumberedFont). record { held = eqb (get_or s p 0) 1; font = x }) font.0,
      is.1 ∙ font.1,
      rw is.0 font.2,
      entry_starts Faces s p f q e,
      font.3,
    )

pub next_face : (m : ℕ) (s : List ℕ) (place : ℕ) (fs : List Face) → LiesAt (many (suc m) read_face) s place fs
    → Next read_face m s place (face_at s place) (face_end s place) fs
next_face m s place fs lies = next_of read_face m s place fs (λ f q e. let h = face_at_lem s place f q e in (h.0, h.1)) lies

-- ---- overrides

given_at_lem : (s : List ℕ) (p : ℕ) → ReadsAt (read_given (get_or s (p + 2) 0)) s (p + 3) (given_at s p) (p + 16)
unfolding read_given read_width read_weight done given_at
given_at_lem s p g q e =
    let m = get_or s (p + 2) 0 in
    let width = then_at (or_spare (bit 0 m) None read_width) _ (p + 7) (or_spare_at None ratio (λ x. Some (record { ratio = x })) s (p + 3) (ratio_at s (p + 3)) (bit 0 m)) (omega arith) e in
    let style = then_at (style_or_spare (bit 1 m)) _ (p + 12) (style_given_at (bit 1 m) s (p + 7)) (omega arith) width in
    same_got (then_at (or_spare (bit 2 m) None read_weight) _ (p + 16) (or_spare_at None value (λ x. Some (record { value = x })) s (p + 12) (value_at s (p + 12)) (bit 2 m)) (omega arith) style)

pair_at_lem : (s : List ℕ) (p : ℕ) → ReadsAt read_pair s p (pair_at s p) (p + pair_size)
unfolding read_pair done pair_at
pair_at_lem s p x q e =
    let tag = then_read word _ (p + 4) (word_read s p) refl e in
    same_got (then_at value _ (p + pair_size) (value_at s (p + 4)) (omega arith) tag)

pairs_at_lem : (s : List ℕ) (p next : ℕ) → p + 1 ≡ next
    → ReadsAt (byte_counted read_pair) s p (pairs_at s next (get_or s p 0)) (next + pair_size * get_or s p 0)
unfolding byte_counted pairs_at
pairs_at_lem s p next same xs q e =
    let n = then_read byte _ next (byte_read s p) same e in
    many_even pair_size (pair_at s) read_pair s (pair_at_lem s) (get_or s p 0) next xs q n

pub override_at_lem : (faces : ℕ) (s : List ℕ) (p : ℕ) (o : Override) (q : ℕ) → read_override faces s p ≡ got o q
    → (o ≡ override_at s p) × (q ≡ override_end s p) × (o.face < faces)
unfolding read_override done override_at override_end
override_at_lem faces s p o q e =
    let first = then_got (face_number faces) _ s p o q e in
    let face = face_number_read faces s p first.0 first.1 first.2 in
    let f = then_read (face_number faces) _ (p + 2) (face_number_read faces s p) refl e in
    let m = then_read mask _ (p + 3) (mask_read s (p + 2)) (omega arith) f in
    let given = then_at (read_given (get_or s (p + 2) 0)) _ (p + 16) (given_at_lem s p) refl m in
    let is = same_got (then_at (byte_counted read_pair) _ (override_end s p) (pairs_at_lem s (p + 16) (p + override_head) (omega arith)) refl given) in
    (is.0, is.1, omega (arith, ap (λ (x : Override). x.face) is.0, face.value, ltb-true first.0 faces face.passed))

pub next_override : (n m : ℕ) (s : List ℕ) (place : ℕ) (os : List Override) → LiesAt (many (suc m) (read_override n)) s place os
    → Next (read_override n) m s place (override_at s place) (override_end s place) os
next_override n m s place os lies = next_of (read_override n) m s place os (λ o q e. let h = override_at_lem n s place o q e in (h.0, h.1)) lies
