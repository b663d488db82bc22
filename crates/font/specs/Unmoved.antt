-- Font reading as it was when "A table reaching past the file, or shorter than needed, is absent.", and what has moved since: a font that
-- loses a table that its attributes need is refused by 31. Any other is read as before; axes and charmap index always are. So under each reading. Proved in
-- proofs/Unmoved.antt.
use Rattle.std.specs.Prelude.{ℕ, ◌+◌, ◌≡◌, true, false, ◌&&◌, cond, List, length, leb, ltb, eqb, Option}
use Rattle.font.specs.declared.charmap.CharmapIndex.{CharmapIndex}
use Rattle.font.specs.declared.tables.Table.{Table}
use Rattle.font.specs.declared.tables.Table.TheVariants.{Absent, Found}
use Rattle.font.specs.declared.attributes.Attributes.{Attributes}
use Rattle.font.specs.StatedAttributes.{Refused, Stated}
use Rattle.font.specs.declared.font.FontInfo.{FontInfo}
use Rattle.font.specs.Refusals.{Checked}
use Rattle.font.specs.Attributes.{default_attributes}
use Rattle.font.specs.Tables.{record_count, record_offset, record_length, directory_fits, first_record, part_of}
use Rattle.font.specs.Collection.{header_fits, font_count, font_start}
use Rattle.font.specs.Charmap.{index_in, charmap_index_of}
use Rattle.font.specs.StatedAttributes.{present, from_os2_post, from_head, loses_needed, read_attributes}
use Rattle.font.specs.Font.{fvar_of, axis_count_of, axes_of, no_index, has_index, index_or, empty_font, font_refusal, from_font_ref}

-- ---- font reading as it was

-- lookup, with two answers
unfoldable pub record_before : List ℕ → ℕ → ℕ → ℕ → Table
record_before file start least i =
    cond (leb least (record_length file start i) && leb (record_offset file start i + record_length file start i) (length file))
    (Found (record_offset file start i) (record_length file start i))
    Absent

unfoldable pub table_before : List ℕ → ℕ → ℕ → ℕ → Table
table_before file start tag least =
    cond (directory_fits file start && ltb (first_record file start tag) (record_count file start))
    (record_before file start least (first_record file start tag))
    Absent

unfoldable pub data_before : List ℕ → ℕ → ℕ → ℕ → List ℕ
data_before file start tag least = part_of file (table_before file start tag least)

unfoldable pub attributes_before : ℕ → List ℕ → ℕ → Attributes
attributes_before reading file start =
    cond (present (data_before file start 0x4F532F32 78)) (from_os2_post reading (data_before file start 0x4F532F32 78) (data_before file start 0x706F7374 32))
    (cond (present (data_before file start 0x68656164 54)) (from_head (data_before file start 0x68656164 54))
    default_attributes)

unfoldable pub fvar_before : List ℕ → ℕ → List ℕ
fvar_before file start = data_before file start 0x66766172 16

unfoldable pub charmap_before : List ℕ → ℕ → Option CharmapIndex
charmap_before file start = index_in file (table_before file start 0x636D6170 4)

-- the refusals: 21, 22, 23, and 30 by the number
unfoldable pub refusal_at_before : List ℕ → ℕ → ℕ
refusal_at_before file start =
    cond (directory_fits file start)
    (cond (has_index (charmap_before file start))
    (cond (leb (axis_count_of (fvar_before file start)) 16) 0 23)
    22)
    21

unfoldable pub refusal_before : List ℕ → ℕ → ℕ
refusal_before file number =
    cond (header_fits file)
    (cond (ltb number (font_count file)) (refusal_at_before file (font_start file number)) 30)
    21

unfoldable pub face_before : ℕ → List ℕ → ℕ → FontInfo
face_before reading file start =
    record {
      attributes = attributes_before reading file start;
      axes = axes_of (fvar_before file start) (axis_count_of (fvar_before file start));
      axis_count = axis_count_of (fvar_before file start);
      charmap_index = index_or no_index (charmap_before file start);
    }

unfoldable pub font_before : ℕ → List ℕ → ℕ → Checked
font_before reading file number =
    record {
      refusal = refusal_before file number;
      font = cond (eqb (refusal_before file number) 0) (face_before reading file (font_start file number)) empty_font;
    }

-- ---- what moved

-- what 31 may stand in the place of: no refusal, or a row that comes after it. So it takes nothing from 21 and 30.
pub data After31 (before : ℕ) : Type 0 where
  accepted : before ≡ 0 → After31 before
  charmap : before ≡ 22 → After31 before
  axes : before ≡ 23 → After31 before

-- of the font of a number, under a reading
pub record Unmoved (reading : ℕ) (file : List ℕ) (number : ℕ) : Type 0 where
  -- whatever is damaged
  pub axis_count_lem : axis_count_of (fvar_of file (font_start file number)) ≡ axis_count_of (fvar_before file (font_start file number))
  pub axes : axes_of (fvar_of file (font_start file number)) (axis_count_of (fvar_of file (font_start file number)))
      ≡ axes_of (fvar_before file (font_start file number)) (axis_count_of (fvar_before file (font_start file number)))
  pub charmap : charmap_index_of file (font_start file number) ≡ charmap_before file (font_start file number)
  -- where no needed table is damaged
  pub attributes : loses_needed file (font_start file number) ≡ false
      → read_attributes reading file (font_start file number) ≡ Stated (attributes_before reading file (font_start file number))
  pub refusal : loses_needed file (font_start file number) ≡ false → font_refusal file number ≡ refusal_before file number
  pub font : loses_needed file (font_start file number) ≡ false → from_font_ref reading file number ≡ font_before reading file number
  -- where one is, the font is refused by 31
  pub lost : loses_needed file (font_start file number) ≡ true → read_attributes reading file (font_start file number) ≡ Refused 31
  pub by_31 : loses_needed file (font_start file number) ≡ true → font_refusal file number ≡ 31
  -- refused by 31
  pub after : font_refusal file number ≡ 31 → After31 (refusal_before file number)
  -- refused by another number or not at all: it was so before, with the same face
  pub same_number : (font_refusal file number ≡ 31 → ⊥) → font_refusal file number ≡ refusal_before file number
  pub same_font : (font_refusal file number ≡ 31 → ⊥) → from_font_ref reading file number ≡ font_before reading file number
