-- The refusal of a file's font, and the face of one that is not refused: its attributes and its axes.
use Prim.Native.Nat.{ℕ, ◌≤◌, ◌<◌}
use mathlib.Core.Path.{◌≡◌, refl, sym, ap, ◌∙◌}
use mathlib.Core.Bool.{Bool, true, false, cond}
use mathlib.Core.List.{List}
use native.Mathlib.Omega.{arith}
use lib.Dec.{leb, ltb, eqb}
use borrow.Author.Tests.{leb-true, lt-ltb, ltb-true, eq-eqb, ne_eqb, eqb-true, eqb-false}
use Rattle.std.specs.Prelude.{Option, None, Some, unwrap_or, Ok, Err}
use Rattle.font.specs.declared.refusal.Refusal.{Refusal}
use Rattle.font.specs.declared.refusal.Refusal.TheVariants.{WrongOutput, Overlong, PastEnd, OverLimit, NotHeld, BadDirectory, NoCharmap, ManyAxes, NoFace, Unknown, BadNumber, BytesLeft, NoRequest, FourthSetting, NoFont, DamagedTable}
use Rattle.font.specs.Refusals.{checked}
use Rattle.font.specs.Refusals.{number as number_of}
use Rattle.font.specs.declared.charmap.CharmapIndex.{CharmapIndex}
use Rattle.font.specs.declared.font.AxisInfo.{AxisInfo}
use Rattle.font.specs.declared.font.FontInfo.{FontInfo}
use Rattle.font.specs.Tables.{table_data, directory_fits}
use Rattle.font.specs.Collection.{header_fits, font_count, font_start}
use Rattle.font.specs.Charmap.{charmap_index_of}
use Rattle.font.specs.StatedAttributes.{from_tables, loses_needed}
use Rattle.font.specs.Font.{fvar_of, axis_count_of, axis_at, no_axis, axes_of, no_index, index_or, has_index, face_of, empty_font, refusal_at, font_refusal, refusal_under, checked_by, from_font_ref, states_axis}
use Rattle.font.specs.Overrides.{axis_of, first_axis}
use Rattle.font.specs.declared.slant.Reading.{Reading}
use Rattle.font.specs.Slant.{is_reading, reading_number, reading_of}
use Rattle.font.proofs.Readings.{reading_stands, of_reading, of_none}
use Rattle.font.proofs.First.{first_same}
use Rattle.font.proofs.Tabulated.{element}

-- ---- the refusal

number_above : (why : Refusal) → 0 < number_of why
unfolding number_of
number_above WrongOutput = omega arith
number_above Overlong = omega arith
number_above PastEnd = omega arith
number_above OverLimit = omega arith
number_above NotHeld = omega arith
number_above BadDirectory = omega arith
number_above NoCharmap = omega arith
number_above ManyAxes = omega arith
number_above NoFace = omega arith
number_above Unknown = omega arith
number_above BadNumber = omega arith
number_above BytesLeft = omega arith
number_above NoRequest = omega arith
number_above FourthSetting = omega arith
number_above NoFont = omega arith
number_above DamagedTable = omega arith

-- it is one of the table's rows of a font, or none
pub data OneOf (n : ℕ) : Type 0 where
  accepted : n ≡ 0 → OneOf n
  directory : n ≡ 21 → OneOf n
  charmap : n ≡ 22 → OneOf n
  axes : n ≡ 23 → OneOf n
  number : n ≡ 30 → OneOf n
  damage : n ≡ 31 → OneOf n

at_one_of : (font : List ℕ) (start : ℕ) → OneOf (refusal_at font start)
unfolding refusal_at
at_one_of font start = go (directory_fits font start) (loses_needed font start) (has_index (charmap_index_of font start)) (leb (axis_count_of (fvar_of font start)) 16)
  where
    go : (a l b c : Bool) → OneOf (cond a (cond l 31 (cond b (cond c 0 23) 22)) 21)
    go true true b c = damage refl
    go true false true true = accepted refl
    go true false true false = axes refl
    go true false false c = charmap refl
    go false l b c = directory refl

not_30 : (font : List ℕ) (start : ℕ) → refusal_at font start ≡ 30 → ⊥
unfolding refusal_at
not_30 font start = go (directory_fits font start) (loses_needed font start) (has_index (charmap_index_of font start)) (leb (axis_count_of (fvar_of font start)) 16)
  where
    go : (a l b c : Bool) → ◌≡◌ {A = ℕ} (cond a (cond l 31 (cond b (cond c 0 23) 22)) 21) 30 → ⊥
    go true true b c z = omega arith
    go true false true true z = omega arith
    go true false true false z = omega arith
    go true false false c z = omega arith
    go false l b c z = omega arith

pub refusal_one_of : (font : List ℕ) (n : ℕ) → OneOf (font_refusal font n)
unfolding font_refusal
refusal_one_of font n = go (header_fits font) (ltb n (font_count font))
  where
    go : (a b : Bool) → OneOf (cond a (cond b (refusal_at font (font_start font n)) 30) 21)
    go true true = at_one_of font (font_start font n)
    go true false = number refl
    go false b = directory refl

-- a font of a number that the file has, where its header is there, is refused as the one at its start
pub refused_at_lem : (font : List ℕ) (n : ℕ) → header_fits font ≡ true → n < font_count font → font_refusal font n ≡ refusal_at font (font_start font n)
unfolding font_refusal
refused_at_lem font n h l = rw (h, lt-ltb n (font_count font) l)

-- and never by 30
pub below_not_30 : (font : List ℕ) (n : ℕ) → n < font_count font → font_refusal font n ≡ 30 → ⊥
unfolding font_refusal
below_not_30 font n l z = go (header_fits font) (at_one_of font (font_start font n)) (rw (lt-ltb n (font_count font) l) at z)
  where
    go : (a : Bool) → OneOf (refusal_at font (font_start font n)) → ◌≡◌ {A = ℕ} (cond a (refusal_at font (font_start font n)) 21) 30 → ⊥
    go true (accepted e) z = omega arith
    go true (directory e) z = omega arith
    go true (charmap e) z = omega arith
    go true (axes e) z = omega arith
    go true (number e) z = not_30 font (font_start font n) e
    go true (damage e) z = omega arith
    go false o z = omega arith

-- one that is not refused has its header, and its number is below the count
pub record Taken (font : List ℕ) (n : ℕ) : Type 0 where
  pub header : header_fits font ≡ true
  pub below : n < font_count font
  pub at_start : refusal_at font (font_start font n) ≡ 0

pub taken : (font : List ℕ) (n : ℕ) → font_refusal font n ≡ 0 → Taken font n
unfolding font_refusal
taken font n = go (header_fits font) (ltb n (font_count font)) refl refl
  where
    go : (a b : Bool) → header_fits font ≡ a → ltb n (font_count font) ≡ b → ◌≡◌ {A = ℕ} (cond a (cond b (refusal_at font (font_start font n)) 30) 21) 0 → Taken font n
    go true true e h z = record { header = e; below = ltb-true n (font_count font) h; at_start = z }
    go true false e h z = absurd (omega arith)
    go false b e h z = absurd (omega arith)

-- what is known of a directory whose font is not refused
pub record Sound (font : List ℕ) (start : ℕ) : Type 0 where
  pub fits : directory_fits font start ≡ true
  pub kept : loses_needed font start ≡ false
  pub few : axis_count_of (fvar_of font start) ≤ 16

pub sound : (font : List ℕ) (start : ℕ) → refusal_at font start ≡ 0 → Sound font start
unfolding refusal_at
sound font start = go (directory_fits font start) (loses_needed font start) (has_index (charmap_index_of font start)) (leb (axis_count_of (fvar_of font start)) 16) refl refl refl
  where
    go : (a l b c : Bool) → directory_fits font start ≡ a → loses_needed font start ≡ l → leb (axis_count_of (fvar_of font start)) 16 ≡ c
        → ◌≡◌ {A = ℕ} (cond a (cond l 31 (cond b (cond c 0 23) 22)) 21) 0
        → Sound font start
    go true true b c d k e z = absurd (omega arith)
    go true false true true d k e z = record { fits = d; kept = k; few = leb-true (axis_count_of (fvar_of font start)) 16 e }
    go true false true false d k e z = absurd (omega arith)
    go true false false c d k e z = absurd (omega arith)
    go false l b c d k e z = absurd (omega arith)

-- a font that is not refused states at most 16 axes
pub few_stated : (font : List ℕ) (n : ℕ) → font_refusal font n ≡ 0 → axis_count_of (fvar_of font (font_start font n)) ≤ 16
few_stated font n z = (sound font (font_start font n) (taken font n z).at_start).few

-- so that their number, however it was read, is at most 16
pub few_read : (font : List ℕ) (n start count : ℕ) (fvar : List ℕ) → font_refusal font n ≡ 0 → start ≡ font_start font n → fvar ≡ table_data font start 0x66766172 16
    → count ≡ axis_count_of fvar → count ≤ 16
unfolding fvar_of
few_read font n start count fvar z s f e = rw (e, f, s) (few_stated font n z)

-- and its directory fits
pub fits_stated : (font : List ℕ) (n : ℕ) → font_refusal font n ≡ 0 → directory_fits font (font_start font n) ≡ true
fits_stated font n z = (sound font (font_start font n) (taken font n z).at_start).fits

-- ---- under a reading

-- none is refused by the reading
pub under_reading : (reading : ℕ) (font : List ℕ) (n : ℕ) → is_reading reading ≡ true → refusal_under reading font n ≡ font_refusal font n
unfolding refusal_under
under_reading reading font n k = rw k

-- one that is not refused has a reading, and is not refused by the font's own rows
pub taken_under : (reading : ℕ) (font : List ℕ) (n : ℕ) → refusal_under reading font n ≡ 0 → (is_reading reading ≡ true) × (font_refusal font n ≡ 0)
unfolding refusal_under
taken_under reading font n = go (is_reading reading) refl
  where
    go : (b : Bool) → is_reading reading ≡ b → ◌≡◌ {A = ℕ} (cond b (font_refusal font n) 25) 0 → (is_reading reading ≡ true) × (font_refusal font n ≡ 0)
    go true e z = (e, z)
    go false e z = absurd (omega arith)

-- the directory of such a one fits
pub fits_taken : (reading : ℕ) (font : List ℕ) (n start : ℕ) → refusal_under reading font n ≡ 0 → start ≡ font_start font n → directory_fits font start ≡ true
fits_taken reading font n start z e = rw e (fits_stated font n (taken_under reading font n z).1)

-- ---- the face

-- the index of a face, as `unwrap_or` gives it
pub index_or_is : (o : Option CharmapIndex) → unwrap_or o no_index ≡ index_or no_index o
unfolding index_or
index_or_is None = refl
index_or_is (Some index) = refl

module _ (reading : ℕ) (font : List ℕ) (n : ℕ) where
  pub accepted_face_lem : refusal_under reading font n ≡ 0 → (from_font_ref reading font n).font ≡ face_of reading font (font_start font n)
  unfolding from_font_ref checked_by
  accepted_face_lem z = simp (eq-eqb (refusal_under reading font n) 0 z)

  refused_face : (refusal_under reading font n ≡ 0 → ⊥) → (from_font_ref reading font n).font ≡ empty_font
  unfolding from_font_ref checked_by
  refused_face h = simp (ne_eqb (refusal_under reading font n) 0 h)

  -- ---- the answer, by the reading of its number and the font's refusal

  answered_refusal : (why : Refusal) → number_of why ≡ refusal_under reading font n → checked empty_font (Err why) ≡ from_font_ref reading font n
  unfolding checked from_font_ref checked_by
  answered_refusal why e = rw (← e, ne_eqb (number_of why) 0 (λ z. omega (arith, z, number_above why)))

  pub answered_none : (why : Refusal) → Err why ≡ reading_of reading → checked empty_font (Err why) ≡ from_font_ref reading font n
  unfolding refusal_under number_of
  answered_none why e = let none = of_none reading why e in answered_refusal why (rw (none.0, none.1))

  module _ (r : Reading) (e : Ok r ≡ reading_of reading) where
    of_number : refusal_under reading font n ≡ font_refusal font n
    of_number = under_reading reading font n (rw (of_reading reading r e) (reading_stands r))

    pub answered_font : (why : Refusal) → number_of why ≡ font_refusal font n → checked empty_font (Err why) ≡ from_font_ref reading font n
    answered_font why z = answered_refusal why (z ∙ sym of_number)

    pub not_refused : 0 ≡ font_refusal font n → refusal_under (reading_number r) font n ≡ 0
    not_refused z = under_reading (reading_number r) font n (reading_stands r) ∙ sym z

    pub answered_face : (face : FontInfo) → 0 ≡ font_refusal font n → face ≡ face_of (reading_number r) font (font_start font n)
        → checked empty_font (Ok face) ≡ from_font_ref reading font n
    unfolding checked from_font_ref checked_by
    answered_face face z f = rw (of_number, ← z, f, of_reading reading r e)

  -- what holds of the empty face and of the face of each font that is not refused holds of every face that is read
  pub each_face : (P : FontInfo → Type 0) → P empty_font → (refusal_under reading font n ≡ 0 → P (face_of reading font (font_start font n)))
      → P (from_font_ref reading font n).font
  each_face P e h = go (eqb (refusal_under reading font n) 0) refl
    where
      go : (b : Bool) → eqb (refusal_under reading font n) 0 ≡ b → P (from_font_ref reading font n).font
      go true t = let z = eqb-true (refusal_under reading font n) 0 t in rw (accepted_face_lem z) (h z)
      go false t = rw (refused_face (eqb-false (refusal_under reading font n) 0 t)) e

  pub attributes_of_face : refusal_under reading font n ≡ 0 → from_tables reading font (font_start font n) ≡ (from_font_ref reading font n).font.attributes
  unfolding face_of
  attributes_of_face z = ap (λ (f : FontInfo). f.attributes) (sym (accepted_face_lem z))

  -- ---- its axes

  -- a font gives at most 16 axes
  pub few_axes : (from_font_ref reading font n).font.axis_count ≤ 16
  unfolding empty_font face_of
  few_axes = each_face (λ f. f.axis_count ≤ 16) (omega arith) (λ z. few_stated font n (taken_under reading font n z).1)

pub axis_there : (fvar : List ℕ) (n i : ℕ) → i < n → n ≤ 16 → axis_of (axes_of fvar n) i ≡ axis_at fvar i
unfolding axis_of axes_of
axis_there fvar n i l few = element (λ j. cond (ltb j n) (axis_at fvar j) no_axis) 16 i _ (omega arith) ∙ rw (lt-ltb i n l)

of_face : (reading : ℕ) (font : List ℕ) (start tag : ℕ) → axis_count_of (fvar_of font start) ≤ 16
    → states_axis font start tag
    ≡ ltb (first_axis (face_of reading font start).axes (face_of reading font start).axis_count tag) (face_of reading font start).axis_count
unfolding states_axis first_axis face_of
of_face reading font start tag few =
    ap (λ (k : ℕ). ltb k (axis_count_of (fvar_of font start)))
    (first_same (λ i. eqb (axis_at (fvar_of font start) i).tag tag) (λ i. eqb (axis_of (axes_of (fvar_of font start) (axis_count_of (fvar_of font start))) i).tag tag)
    (axis_count_of (fvar_of font start)) (λ i l. ap (λ (a : AxisInfo). eqb a.tag tag) (sym (axis_there (fvar_of font start) (axis_count_of (fvar_of font start)) i l few))))

-- the axes that a font states are those of its face
pub stated : (reading : ℕ) (font : List ℕ) (n tag : ℕ) → refusal_under reading font n ≡ 0
    → states_axis font (font_start font n) tag
    ≡ ltb (first_axis (from_font_ref reading font n).font.axes (from_font_ref reading font n).font.axis_count tag) (from_font_ref reading font n).font.axis_count
stated reading font n tag z =
    of_face reading font (font_start font n) tag (few_stated font n (taken_under reading font n z).1)
    ∙ ap (λ (f : FontInfo). ltb (first_axis f.axes f.axis_count tag) f.axis_count) (sym (accepted_face_lem reading font n z))
