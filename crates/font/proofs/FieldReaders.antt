use Rattle.std.specs.Prelude.{Option, None, Some}
-- Section 2 a second time, over any reader of fields: `r16` and `r32` give a field's number where it lies whole in the bytes, and anything where it does not.
-- A field can be read here by these two alone, and a table that is not found has no bytes to read. `AnyReader.antt` shows that each such reader gives
-- what the definitions give: an absent or damaged table and an unreadable field are never taken for data.
use Prim.Native.Nat.{ℕ, ◌+◌, ◌*◌}
use mathlib.Core.Bool.{Bool, true, false, not, ◌&&◌, cond}
use mathlib.Core.List.{List}
use lib.ListN.{length, take, drop}
use lib.Dec.{leb, ltb, eqb}
use Rattle.font.specs.declared.charmap.CharmapIndex.{CharmapIndex}
use Rattle.font.specs.declared.attributes.Angle.{Angle}
use Rattle.font.specs.declared.attributes.Attributes.{Attributes}
use Rattle.font.specs.declared.attributes.Angle.TheVariants.{Unstated, Degrees}
use Rattle.font.specs.declared.attributes.FontStyle.TheVariants.{Normal, Italic, Oblique}
use Rattle.font.specs.declared.font.AxisInfo.{AxisInfo}
use Rattle.font.specs.Refusals.{Checked}
use Rattle.font.specs.declared.font.FontInfo.{FontInfo}
use Rattle.font.specs.declared.tables.Table.{Table}
use Rattle.font.specs.declared.tables.Table.TheVariants.{Absent, Damaged, Found}
use Rattle.font.specs.First.{first, some, least_below, first_least, tabulate}
use Rattle.font.specs.Single.{single, fixed_to_single}
use Rattle.font.specs.Attributes.{attributes_of, default_attributes}
use Rattle.font.specs.Slant.{is_reading, slant_under}
use Rattle.font.specs.Tables.{starts_as_font}
use Rattle.font.specs.Charmap.{class_of}
use Rattle.font.specs.StatedAttributes.{bit, width_of_class, head_style, head_weight}
use Rattle.font.specs.Font.{no_axis, has_index, index_or, no_index, empty_font}

abbrev pub Fields : Type 0
Fields = List ℕ → ℕ → ℕ

-- the bytes of a table that was found
abbrev pub bytes_at : List ℕ → ℕ → ℕ → List ℕ
bytes_at font offset len = take len (drop offset font)

-- whether lookup answers "damaged"
unfoldable pub lost : Table → Bool
lost Absent = false
lost Damaged = true
lost (Found offset len) = false

module _ (r16 r32 : Fields) where
  -- ---- the fonts of a file, whose header is there
  unfoldable pub count_by : List ℕ → ℕ
  count_by font = cond (eqb (r32 font 0) 0x74746366) (r32 font 8) 1

  unfoldable pub start_by : List ℕ → ℕ → ℕ
  start_by font number =
      cond (eqb (r32 font 0) 0x74746366) (cond (leb (12 + 4 * count_by font) (length font)) (r32 font (12 + 4 * number)) (length font)) 0

  -- ---- the directory
  unfoldable pub fits_by : List ℕ → ℕ → Bool
  fits_by font start = leb (start + 12) (length font) && (starts_as_font (r32 font start) && leb (start + 12 + 16 * r16 font (start + 4)) (length font))

  unfoldable pub record_by : List ℕ → ℕ → ℕ → ℕ
  record_by font start tag = first (λ i. eqb (r32 font (start + 12 + 16 * i)) tag) (r16 font (start + 4))

  unfoldable pub table_by : List ℕ → ℕ → ℕ → ℕ → Table
  table_by font start least i =
      cond (leb least (r32 font (start + 24 + 16 * i)) && leb (r32 font (start + 20 + 16 * i) + r32 font (start + 24 + 16 * i)) (length font))
      (Found (r32 font (start + 20 + 16 * i)) (r32 font (start + 24 + 16 * i)))
      Damaged

  unfoldable pub find_by : List ℕ → ℕ → ℕ → ℕ → Table
  find_by font start tag least =
      cond (fits_by font start && ltb (record_by font start tag) (r16 font (start + 4))) (table_by font start least (record_by font start tag)) Absent

  -- ---- attributes
  unfoldable pub angle_by : ℕ → List ℕ → Table → Angle
  angle_by reading font Absent = Unstated
  angle_by reading font Damaged = Unstated
  angle_by reading font (Found offset len) = Degrees (slant_under reading (fixed_to_single (r32 (bytes_at font offset len) 4)))

  unfoldable pub os2_by : List ℕ → Angle → Attributes
  os2_by os2 angle =
      attributes_of
      (width_of_class (r16 os2 6))
      (cond (bit 0 (r16 os2 62)) Italic (cond (bit 9 (r16 os2 62)) (Oblique angle) Normal))
      (single (r16 os2 4))

  unfoldable pub head_by : List ℕ → Attributes
  head_by head = attributes_of (single 1) (head_style (r16 head 44)) (head_weight (r16 head 44))

  unfoldable pub without_by : List ℕ → Table → Attributes
  without_by font (Found offset len) = head_by (bytes_at font offset len)
  without_by font Damaged = default_attributes
  without_by font Absent = default_attributes

  -- from OS/2, `post` and `head`
  unfoldable pub stated_by : ℕ → List ℕ → Table → Table → Table → Attributes
  stated_by reading font (Found offset len) post head = os2_by (bytes_at font offset len) (angle_by reading font post)
  stated_by reading font Damaged post head = without_by font head
  stated_by reading font Absent post head = without_by font head

  unfoldable pub attributes_by : ℕ → List ℕ → ℕ → Attributes
  attributes_by reading font start = stated_by reading font (find_by font start 0x4F532F32 78) (find_by font start 0x706F7374 32) (find_by font start 0x68656164 54)

  -- whether a table that they need is damaged
  unfoldable pub needs_post_by : List ℕ → Bool
  needs_post_by os2 = not (bit 0 (r16 os2 62)) && bit 9 (r16 os2 62)

  unfoldable pub needed_by : List ℕ → Table → Table → Table → Bool
  needed_by font Absent post head = lost head
  needed_by font Damaged post head = true
  needed_by font (Found offset len) post head = needs_post_by (bytes_at font offset len) && lost post

  unfoldable pub loses_by : List ℕ → ℕ → Bool
  loses_by font start = needed_by font (find_by font start 0x4F532F32 78) (find_by font start 0x706F7374 32) (find_by font start 0x68656164 54)

  -- ---- axes
  unfoldable pub count_in_by : List ℕ → ℕ
  count_in_by fvar = cond (eqb (r16 fvar 10) 20 && leb (r16 fvar 4 + 20 * r16 fvar 8) (length fvar)) (r16 fvar 8) 0

  unfoldable pub axis_count_by : List ℕ → Table → ℕ
  axis_count_by font Absent = 0
  axis_count_by font Damaged = 0
  axis_count_by font (Found offset len) = count_in_by (bytes_at font offset len)

  unfoldable pub axis_by : List ℕ → ℕ → AxisInfo
  axis_by fvar i =
      record {
        tag = r32 fvar (r16 fvar 4 + 20 * i);
        min = fixed_to_single (r32 fvar (r16 fvar 4 + 20 * i + 4));
        default = fixed_to_single (r32 fvar (r16 fvar 4 + 20 * i + 8));
        max = fixed_to_single (r32 fvar (r16 fvar 4 + 20 * i + 12));
      }

  unfoldable pub axes_by : List ℕ → Table → List AxisInfo
  axes_by font Absent = tabulate (λ i. no_axis) 16
  axes_by font Damaged = tabulate (λ i. no_axis) 16
  axes_by font (Found offset len) =
      tabulate (λ i. cond (ltb i (count_in_by (bytes_at font offset len))) (axis_by (bytes_at font offset len) i) no_axis) 16

  unfoldable pub states_by : List ℕ → ℕ → Table → Bool
  states_by font tag Absent = false
  states_by font tag Damaged = false
  states_by font tag (Found offset len) =
      ltb (first (λ i. eqb (axis_by (bytes_at font offset len) i).tag tag) (count_in_by (bytes_at font offset len))) (count_in_by (bytes_at font offset len))

  -- ---- `cmap`
  unfoldable pub class_by : List ℕ → ℕ → ℕ
  class_by cmap i = class_of (r16 cmap (4 + 8 * i)) (r16 cmap (6 + 8 * i))

  unfoldable pub qualifies_by : List ℕ → ℕ → Bool
  qualifies_by cmap i = (leb (12 + 8 * i) (length cmap) && leb (r32 cmap (8 + 8 * i) + 2) (length cmap)) && ltb (class_by cmap i) 4

  unfoldable pub record_class_by : List ℕ → ℕ → ℕ
  record_class_by cmap i = cond (qualifies_by cmap i) (class_by cmap i) 4

  unfoldable pub index_in_by : ℕ → List ℕ → Option CharmapIndex
  index_in_by offset cmap =
      cond (some (qualifies_by cmap) (r16 cmap 2))
      (Some
      (record {
        subtable_offset = offset + r32 cmap (8 + 8 * first_least 4 (record_class_by cmap) (r16 cmap 2));
        is_symbol = eqb (least_below 4 (record_class_by cmap) (r16 cmap 2)) 2;
        is_mac_roman = eqb (least_below 4 (record_class_by cmap) (r16 cmap 2)) 3;
      }))
      None

  unfoldable pub index_by : List ℕ → Table → Option CharmapIndex
  index_by font Absent = None
  index_by font Damaged = None
  index_by font (Found offset len) = index_in_by offset (bytes_at font offset len)

  -- ---- the refusal and the face
  unfoldable pub refusal_at_by : List ℕ → ℕ → ℕ
  refusal_at_by font start =
      cond (fits_by font start)
      (cond (loses_by font start) 31
      (cond (has_index (index_by font (find_by font start 0x636D6170 4)))
      (cond (leb (axis_count_by font (find_by font start 0x66766172 16)) 16) 0 23)
      22))
      21

  unfoldable pub refusal_by : List ℕ → ℕ → ℕ
  refusal_by font number =
      cond (leb 12 (length font)) (cond (ltb number (count_by font)) (refusal_at_by font (start_by font number)) 30) 21

  unfoldable pub under_by : ℕ → List ℕ → ℕ → ℕ
  under_by reading font number = cond (is_reading reading) (refusal_by font number) 25

  unfoldable pub face_by : ℕ → List ℕ → ℕ → FontInfo
  face_by reading font start =
      record {
        attributes = attributes_by reading font start;
        axes = axes_by font (find_by font start 0x66766172 16);
        axis_count = axis_count_by font (find_by font start 0x66766172 16);
        charmap_index = index_or no_index (index_by font (find_by font start 0x636D6170 4));
      }

  unfoldable pub font_by : ℕ → List ℕ → ℕ → Checked
  font_by reading font number =
      record {
        refusal = under_by reading font number;
        font = cond (eqb (under_by reading font number) 0) (face_by reading font (start_by font number)) empty_font;
      }
