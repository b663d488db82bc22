-- Section 2, `cmap`: the charmap index, from OpenType's "cmap - Character to Glyph Index Mapping Table".
use Rattle.std.specs.Prelude.{ℕ, ◌+◌, ◌*◌, ◌<◌, ◌≡◌, Bool, false, ◌&&◌, ◌||◌, cond, List, length, leb, ltb, eqb, Option, None, Some}
use Rattle.font.specs.declared.charmap.BestRecord.{BestRecord}
use Rattle.font.specs.declared.charmap.Class.{Class}
use Rattle.font.specs.declared.charmap.Class.TheVariants.{Full, Basic, Symbol, MacRoman}
use Rattle.font.specs.declared.charmap.CharmapIndex.{CharmapIndex}
use Rattle.font.specs.declared.tables.Table.{Table}
use Rattle.font.specs.declared.tables.Table.TheVariants.{Absent, Damaged, Found}
use Rattle.font.specs.First.{some, least_below, first_least}
use Rattle.font.specs.Tables.{u16_at, u32_at, find_table, part_of}

-- "Best first: (3,10), (0,4) or (0,6); then (3,1) or (0,0) to (0,3); then (3,0), symbol; then (1,0), Mac Roman."
-- The classes are numbered from 0 in that order. A pair in none of them has the class 4.
unfoldable pub is_pair : ℕ → ℕ → ℕ → ℕ → Bool
is_pair platform encoding p e = eqb platform p && eqb encoding e

unfoldable pub class_of : ℕ → ℕ → ℕ
class_of p e =
    cond (is_pair p e 3 10 || (is_pair p e 0 4 || is_pair p e 0 6)) 0
    (cond (is_pair p e 3 1 || (eqb p 0 && leb e 3)) 1
    (cond (is_pair p e 3 0) 2
    (cond (is_pair p e 1 0) 3
    4)))

-- the number of a class, or 4 for none
unfoldable pub class_number : Option Class → ℕ
class_number None = 4
class_number (Some Full) = 0
class_number (Some Basic) = 1
class_number (Some Symbol) = 2
class_number (Some MacRoman) = 3

unfoldable pub best_number : Option BestRecord → ℕ
best_number None = 4
best_number (Some best) = class_number (Some best.class)

-- "16-bit record count at 2, then 8-byte records of platform, encoding, 32-bit offset."
unfoldable pub subtable_offset_of : List ℕ → ℕ → ℕ
subtable_offset_of cmap i = u32_at cmap (8 + 8 * i)

-- "it lies in the table and two bytes at its offset do too"
unfoldable pub lies_in : List ℕ → ℕ → Bool
lies_in cmap i = leb (12 + 8 * i) (length cmap) && leb (subtable_offset_of cmap i + 2) (length cmap)

-- the class of a record's platform and encoding
unfoldable pub pair_class : List ℕ → ℕ → ℕ
pair_class cmap i = class_of (u16_at cmap (4 + 8 * i)) (u16_at cmap (6 + 8 * i))

-- "A record qualifies if it lies in the table and two bytes at its offset do too." One whose pair is in no class, as (3,2), does not.
unfoldable pub qualifies : List ℕ → ℕ → Bool
qualifies cmap i = lies_in cmap i && ltb (pair_class cmap i) 4

unfoldable pub record_class : List ℕ → ℕ → ℕ
record_class cmap i = cond (qualifies cmap i) (pair_class cmap i) 4

-- whether a record of the table qualifies
unfoldable pub some_qualifies : List ℕ → Bool
some_qualifies cmap = some (qualifies cmap) (u16_at cmap 2)

-- "Best first ..; within a class the first." Where no record qualifies the class is 4.
unfoldable pub best_class : List ℕ → ℕ
best_class cmap = least_below 4 (record_class cmap) (u16_at cmap 2)

unfoldable pub best_record : List ℕ → ℕ
best_record cmap = first_least 4 (record_class cmap) (u16_at cmap 2)

-- "The index is the file offset of that subtable and the two flags." The table lies at `offset` in the file.
unfoldable pub index_of : ℕ → List ℕ → Option CharmapIndex
index_of offset cmap =
    cond (some_qualifies cmap)
    (Some
    (record {
      subtable_offset = offset + subtable_offset_of cmap (best_record cmap);
      is_symbol = eqb (best_class cmap) 2;
      is_mac_roman = eqb (best_class cmap) 3;
    }))
    None

unfoldable pub index_in : List ℕ → Table → Option CharmapIndex
index_in file Absent = None
index_in file Damaged = None
index_in file (Found offset len) = index_of offset (part_of file (Found offset len))

-- `cmap`, at least 4 bytes; "damaged `cmap` is still 22"
unfoldable pub charmap_index_of : List ℕ → ℕ → Option CharmapIndex
charmap_index_of file start = index_in file (find_table file start 0x636D6170 4)

-- "no qualifying `cmap` record", the condition of refusal 22: where a font has the table, none of its records qualifies
abbrev pub NoneQualifies : List ℕ → ℕ → Type 0
NoneQualifies file start =
    (offset len : ℕ) → find_table file start 0x636D6170 4 ≡ Found offset len
    → (i : ℕ) → i < u16_at (part_of file (Found offset len)) 2 → qualifies (part_of file (Found offset len)) i ≡ false
