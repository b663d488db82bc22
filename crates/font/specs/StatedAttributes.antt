-- Section 2: the attributes that a font states, from OpenType's OS/2, `post` and `head` tables.
use Rattle.std.specs.Prelude.{ℕ, ◌/◌, ◌%◌, ◌^◌, Bool, true, false, not, ◌&&◌, cond, List, [], ◌∷◌, length, get_or, ltb, eqb, Float, Result, Ok, Err}
use Rattle.std.specs.Float.{binary32}
use Rattle.std.specs.Float.Ieee.{round}
use Rattle.font.specs.declared.attributes.Angle.{Angle}
use Rattle.font.specs.declared.attributes.FontStyle.{FontStyle}
use Rattle.font.specs.declared.attributes.Attributes.{Attributes}
use Rattle.font.specs.declared.attributes.Angle.TheVariants.{Unstated, Degrees}
use Rattle.font.specs.declared.attributes.FontStyle.TheVariants.{Normal, Italic, Oblique}
use Rattle.font.specs.declared.refusal.Refusal.{Refusal}
use Rattle.font.specs.Refusals.{number}
use Rattle.font.specs.Single.{single, fixed_to_single}
use Rattle.font.specs.Attributes.{attributes_of, default_attributes}
use Rattle.font.specs.Slant.{is_reading, slant_under}
use Rattle.font.specs.Tables.{u16_at, u32_at, table_data, Handed, no_table, damaged_table, found_table, handed_table, is_damaged}

-- a table that is not found is handed out as no bytes, in which nothing is read (`proofs/AnyReader.antt`)
unfoldable pub present : List ℕ → Bool
present table = ltb 0 (length table)

-- the bit of a 16-bit field, counted from the lowest
unfoldable pub bit : ℕ → ℕ → Bool
bit k n = eqb (n / 2 ^ k % 2) 1

-- "Width classes 0 and 1 give 0.5; then 0.625, 0.75, 0.875, 1, 1.125, 1.25, 1.5 for 2 to 8; all others 2." In thousandths.
unfoldable pub thousandths : ℕ → Float
thousandths n = round binary32 false n 1000

unfoldable pub class_widths : List ℕ
class_widths = 500 ∷ 500 ∷ 625 ∷ 750 ∷ 875 ∷ 1000 ∷ 1125 ∷ 1250 ∷ 1500 ∷ []

unfoldable pub width_of_class : ℕ → Float
width_of_class class = thousandths (get_or class_widths class 2000)

-- "with the `post` angle (table at least 32 bytes, 16.16 at 4) or unstated if `post` is absent"; the second reading "negates the `post` angle on reading"
unfoldable pub post_angle : ℕ → List ℕ → Angle
post_angle reading post = cond (present post) (Degrees (slant_under reading (fixed_to_single (u32_at post 4)))) Unstated

-- "fsSelection at 62 .. Bit 0 means italic; otherwise bit 9 means oblique ..; otherwise normal."
unfoldable pub os2_style : ℕ → List ℕ → List ℕ → FontStyle
os2_style reading os2 post = cond (bit 0 (u16_at os2 62)) Italic (cond (bit 9 (u16_at os2 62)) (Oblique (post_angle reading post)) Normal)

-- "weight class at 4, width class at 6"
unfoldable pub from_os2_post : ℕ → List ℕ → List ℕ → Attributes
from_os2_post reading os2 post = attributes_of (width_of_class (u16_at os2 6)) (os2_style reading os2 post) (single (u16_at os2 4))

-- "16-bit macStyle at 44; bit 0 gives weight 700, bit 1 italic."
unfoldable pub head_style : ℕ → FontStyle
head_style macStyle = cond (bit 1 macStyle) Italic Normal

unfoldable pub head_weight : ℕ → Float
head_weight macStyle = cond (bit 0 macStyle) (single 700) (single 400)

unfoldable pub from_head : List ℕ → Attributes
from_head head = attributes_of (single 1) (head_style (u16_at head 44)) (head_weight (u16_at head 44))

-- "OS/2, at least 78 bytes .. Without OS/2, `head` (54 bytes) .. Without both: defaults." Of a font that has lost none of the tables that it needs for it.
unfoldable pub from_tables : ℕ → List ℕ → ℕ → Attributes
from_tables reading file start =
    cond (present (table_data file start 0x4F532F32 78)) (from_os2_post reading (table_data file start 0x4F532F32 78) (table_data file start 0x706F7374 32))
    (cond (present (table_data file start 0x68656164 54)) (from_head (table_data file start 0x68656164 54))
    default_attributes)

-- ---- "A damaged OS/2, `head` or `post` that the attributes need refuses the font."

-- `post` is needed only where OS/2 is found, bit 0 is clear and bit 9 is set: by an oblique face
unfoldable pub needs_post : List ℕ → Bool
needs_post os2 = not (bit 0 (u16_at os2 62)) && bit 9 (u16_at os2 62)

-- Needed are OS/2 whenever it has a record, `head` only where OS/2 has none, and `post` as said. By what lookup answers of OS/2, `head` and `post`.
unfoldable pub needed_damaged : Handed → Handed → Handed → Bool
needed_damaged no_table head post = is_damaged head
needed_damaged damaged_table head post = true
needed_damaged (found_table os2) head post = needs_post os2 && is_damaged post

unfoldable pub loses_needed : List ℕ → ℕ → Bool
loses_needed file start =
    needed_damaged (handed_table file start 0x4F532F32 78) (handed_table file start 0x68656164 54) (handed_table file start 0x706F7374 32)

-- what a font says of its attributes, or the number of the refusal
pub data FontAttributes : Type 0 where
  Refused : ℕ → FontAttributes
  Stated : Attributes → FontAttributes

-- so of an answer
unfoldable pub stated_in : Result Attributes Refusal → FontAttributes
stated_in (Ok attributes) = Stated attributes
stated_in (Err why) = Refused (number why)

-- what a font says of its attributes: 25 for a value that is no reading, "first below the job"; 31 where a table which they need is damaged; or the attributes
unfoldable pub read_attributes : ℕ → List ℕ → ℕ → FontAttributes
read_attributes reading file start =
    cond (is_reading reading)
    (cond (loses_needed file start) (Refused 31) (Stated (from_tables reading file start)))
    (Refused 25)
