-- Section 2: axes, and the face that a font file gives.
use Rattle.std.specs.Prelude.{ℕ, ◌+◌, ◌*◌, Bool, true, false, ◌&&◌, cond, List, length, leb, ltb, eqb, Option, None, Some}
use Rattle.font.specs.declared.charmap.CharmapIndex.{CharmapIndex}
use Rattle.font.specs.declared.font.AxisInfo.{AxisInfo}
use Rattle.font.specs.declared.font.FontInfo.{FontInfo}
use Rattle.font.specs.Refusals.{Checked}
use Rattle.font.specs.declared.font.Stated.{Stated}
use Rattle.font.specs.First.{first, tabulate}
use Rattle.font.specs.Single.{single, fixed_to_single}
use Rattle.font.specs.Attributes.{default_attributes}
use Rattle.font.specs.Slant.{is_reading}
use Rattle.font.specs.Tables.{u16_at, u32_at, table_data, directory_fits}
use Rattle.font.specs.Collection.{header_fits, font_count, font_start}
use Rattle.font.specs.Charmap.{charmap_index_of}
use Rattle.font.specs.StatedAttributes.{present, from_tables, loses_needed}

-- "`fvar`, at least 16 bytes"; "Damaged `fvar` still gives no axes"
unfoldable pub fvar_of : List ℕ → ℕ → List ℕ
fvar_of file start = table_data file start 0x66766172 16

-- "16-bit axis offset at 4, count at 8, size at 10. Size other than 20, or records past the table, give no axes."
unfoldable pub axis_count_of : List ℕ → ℕ
axis_count_of fvar =
    cond (present fvar && (eqb (u16_at fvar 10) 20 && leb (u16_at fvar 4 + 20 * u16_at fvar 8) (length fvar)))
    (u16_at fvar 8)
    0

-- "A record holds tag, minimum, default, maximum (16.16), 4 further bytes. An axis keeps its three numbers as singles."
unfoldable pub axis_at : List ℕ → ℕ → AxisInfo
axis_at fvar i =
    record {
      tag = u32_at fvar (u16_at fvar 4 + 20 * i);
      min = fixed_to_single (u32_at fvar (u16_at fvar 4 + 20 * i + 4));
      default = fixed_to_single (u32_at fvar (u16_at fvar 4 + 20 * i + 8));
      max = fixed_to_single (u32_at fvar (u16_at fvar 4 + 20 * i + 12));
    }

-- what stands in a face past its axes
unfoldable pub no_axis : AxisInfo
no_axis = record { tag = 0; min = single 0; default = single 0; max = single 0 }

-- the sixteen axis records of a face with n axes
unfoldable pub axes_of : List ℕ → ℕ → List AxisInfo
axes_of fvar n = tabulate (λ i. cond (ltb i n) (axis_at fvar i) no_axis) 16

unfoldable pub no_index : CharmapIndex
no_index = record { subtable_offset = 0; is_symbol = false; is_mac_roman = false }

-- "no qualifying `cmap` record" is no index: `Qualifying.refused_22` and `gives_22` show that 22 is given exactly for it
unfoldable pub has_index : Option CharmapIndex → Bool
has_index None = false
has_index (Some index) = true

unfoldable pub index_or : CharmapIndex → Option CharmapIndex → CharmapIndex
index_or other None = other
index_or other (Some index) = index

-- ---- section 6, the rows of a font: 21 "bad start or directory past file", 31 "a needed table is damaged; after 21 and before 22", 22 "no qualifying `cmap`
-- record", 23 "over 16 axes given by section 2"; 0 is no refusal. Of the font whose directory begins at `start`.
unfoldable pub refusal_at : List ℕ → ℕ → ℕ
refusal_at file start =
    cond (directory_fits file start)
    (cond (loses_needed file start) 31
    (cond (has_index (charmap_index_of file start))
    (cond (leb (axis_count_of (fvar_of file start)) 16) 0 23)
    22))
    21

-- of the font of a number. "(30 ..: the font number is not below the count; after the 12 header bytes are found .. before any other 21.)"
unfoldable pub font_refusal : List ℕ → ℕ → ℕ
font_refusal file number =
    cond (header_fits file)
    (cond (ltb number (font_count file)) (refusal_at file (font_start file number)) 30)
    21

-- under a reading: "another value is 25 .. first below the job". The font's own refusal is the same under every reading.
unfoldable pub refusal_under : ℕ → List ℕ → ℕ → ℕ
refusal_under reading file number = cond (is_reading reading) (font_refusal file number) 25

-- ---- the face that a font file gives, where it is not refused

unfoldable pub face_of : ℕ → List ℕ → ℕ → FontInfo
face_of reading file start =
    record {
      attributes = from_tables reading file start;
      axes = axes_of (fvar_of file start) (axis_count_of (fvar_of file start));
      axis_count = axis_count_of (fvar_of file start);
      charmap_index = index_or no_index (charmap_index_of file start);
    }

-- the face that stands beside a refusal
unfoldable pub empty_font : FontInfo
empty_font =
    record { attributes = default_attributes; axes = tabulate (λ i. no_axis) 16; axis_count = 0; charmap_index = no_index }

-- a refusal, or 0 and the face of the font whose directory begins at `start`
unfoldable pub checked_by : ℕ → ℕ → List ℕ → ℕ → Checked
checked_by refusal reading file start = record { refusal = refusal; font = cond (eqb refusal 0) (face_of reading file start) empty_font }

unfoldable pub checked_at : ℕ → List ℕ → ℕ → Checked
checked_at reading file start = checked_by (refusal_at file start) reading file start

-- of the font of a number
unfoldable pub from_font_ref : ℕ → List ℕ → ℕ → Checked
from_font_ref reading file number = checked_by (refusal_under reading file number) reading file (font_start file number)

-- whether an axis with the tag is among those that a font gives
unfoldable pub states_axis : List ℕ → ℕ → ℕ → Bool
states_axis file start tag =
    ltb (first (λ i. eqb (axis_at (fvar_of file start) i).tag tag) (axis_count_of (fvar_of file start))) (axis_count_of (fvar_of file start))

-- what the choice of a face looks at, of a font that is not refused
unfoldable pub stated_at : ℕ → List ℕ → ℕ → ℕ → Stated
stated_at reading file start tag = record { attributes = from_tables reading file start; has_axis = states_axis file start tag }
