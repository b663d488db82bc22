-- What the two readings make of a font: reading 0 is section 2 as it stands without a reading, reading 1 has the stated angle negated, and no refusal of a font depends
-- on it. Proved in proofs/TwoReadings.antt.
use Rattle.std.specs.Prelude.{ℕ, ◌≡◌, true, false, cond, List, neg_ℤ, T, eqb, Float}
use Rattle.std.specs.Float.{binary32}
use Rattle.std.specs.Float.Ieee.{fits, eq, neg}
use Rattle.std.specs.Float.Ieee.Scale.{finite}
use Rattle.font.specs.declared.attributes.Angle.TheVariants.{Unstated, Degrees}
use Rattle.font.specs.declared.attributes.FontStyle.TheVariants.{Normal, Italic, Oblique}
use Rattle.font.specs.StatedAttributes.{Refused, Stated}
use Rattle.font.specs.Single.{single, order_number, fixed_to_single}
use Rattle.font.specs.Attributes.{attributes_of, default_attributes}
use Rattle.font.specs.Tables.{u16_at, u32_at, table_data}
use Rattle.font.specs.Collection.{font_start}
use Rattle.font.specs.Charmap.{charmap_index_of}
use Rattle.font.specs.Slant.{is_reading, opposite, slant_under, opposite_attributes, opposite_face}
use Rattle.font.specs.StatedAttributes.{present, bit, width_of_class, from_os2_post, from_head, from_tables, loses_needed, read_attributes}
use Rattle.font.specs.Font.{fvar_of, axis_count_of, axes_of, no_index, index_or, empty_font, refusal_at, font_refusal, face_of, checked_at, from_font_ref, states_axis, stated_at}

-- ---- a number and its opposite

-- Of a finite single. It has the opposite place in the order; it is a single again, and no minus zero; and the opposite of that is the number, but that a
-- zero is positive.
pub record Opposite (x : Float) : Type 0 where
  pub order : order_number (opposite x) ≡ neg_ℤ (order_number x)
  pub held : T (fits binary32 (opposite x))
  pub number : finite (opposite x) ≡ true
  pub positive_zero : eq (opposite x) (single 0) ≡ true → opposite x ≡ single 0
  pub back : eq x (single 0) ≡ false → opposite (opposite x) ≡ x

-- the least 16.16 number, -32768, whose opposite no 16.16 number is; and zero
pub record Edges : Type 0 where
  pub least : fixed_to_single 0x80000000 ≡ neg (single 32768)
  pub turned : slant_under 1 (fixed_to_single 0x80000000) ≡ single 32768
  pub zero : slant_under 1 (fixed_to_single 0) ≡ single 0
  pub minus_zero : slant_under 1 (neg (single 0)) ≡ single 0
  pub kept : slant_under 0 (neg (single 0)) ≡ neg (single 0)

-- ---- the font of a number

-- Reading 0 is all that stood: each definition computes to what it was without a reading, over those below it under reading 0.
pub record Old (file : List ℕ) (number : ℕ) : Type 0 where
  pub attributes : (os2 post : List ℕ)
      → from_os2_post 0 os2 post
      ≡ attributes_of (width_of_class (u16_at os2 6))
      (cond (bit 0 (u16_at os2 62)) Italic
      (cond (bit 9 (u16_at os2 62)) (Oblique (cond (present post) (Degrees (fixed_to_single (u32_at post 4))) Unstated))
      Normal))
      (single (u16_at os2 4))
  pub tables : (start : ℕ)
      → from_tables 0 file start
      ≡ cond (present (table_data file start 0x4F532F32 78)) (from_os2_post 0 (table_data file start 0x4F532F32 78) (table_data file start 0x706F7374 32))
      (cond (present (table_data file start 0x68656164 54)) (from_head (table_data file start 0x68656164 54))
      default_attributes)
  pub stated : (start : ℕ) → read_attributes 0 file start ≡ cond (loses_needed file start) (Refused 31) (Stated (from_tables 0 file start))
  pub face : (start : ℕ)
      → face_of 0 file start
      ≡ record {
        attributes = from_tables 0 file start;
        axes = axes_of (fvar_of file start) (axis_count_of (fvar_of file start));
        axis_count = axis_count_of (fvar_of file start);
        charmap_index = index_or no_index (charmap_index_of file start);
      }
  pub font : from_font_ref 0 file number
      ≡ record {
        refusal = font_refusal file number;
        font = cond (eqb (font_refusal file number) 0) (face_of 0 file (font_start file number)) empty_font;
      }
  pub looked_at : (start tag : ℕ) → stated_at 0 file start tag ≡ record { attributes = from_tables 0 file start; has_axis = states_axis file start tag }

-- the same of the font whose directory begins at a place
pub record OldStarts (file : List ℕ) : Type 0 where
  pub at_start : (start : ℕ)
      → checked_at 0 file start
      ≡ record { refusal = refusal_at file start; font = cond (eqb (refusal_at file start) 0) (face_of 0 file start) empty_font }

pub record TwoReadings (file : List ℕ) (number : ℕ) : Type 0 where
  pub old : Old file number
  -- reading 1: the same face with its stated angle negated
  pub attributes : loses_needed file (font_start file number) ≡ false
      → read_attributes 1 file (font_start file number) ≡ Stated (opposite_attributes (from_tables 0 file (font_start file number)))
  pub face : (from_font_ref 1 file number).font ≡ opposite_face (from_font_ref 0 file number).font
  -- both: one refusal
  pub refusal : (reading : ℕ) → is_reading reading ≡ true → (from_font_ref reading file number).refusal ≡ font_refusal file number
  pub lost : (reading : ℕ) → is_reading reading ≡ true → loses_needed file (font_start file number) ≡ true
      → read_attributes reading file (font_start file number) ≡ Refused 31
  -- any other number
  pub unknown : (reading : ℕ) → is_reading reading ≡ false → from_font_ref reading file number ≡ record { refusal = 25; font = empty_font }
  pub none_stated : (reading : ℕ) → is_reading reading ≡ false → read_attributes reading file (font_start file number) ≡ Refused 25
