-- Section 2: big-endian fields, the table directory, and table lookup, from OpenType's "Organization of an OpenType Font".
use Rattle.std.specs.Prelude.{ℕ, ◌+◌, ◌*◌, ◌/◌, ◌%◌, Bool, true, false, ◌&&◌, ◌||◌, cond, List, [], length, get_or, take, drop, leb, ltb, eqb}
use Rattle.font.specs.declared.tables.Table.{Table}
use Rattle.font.specs.declared.tables.Table.TheVariants.{Absent, Damaged, Found}
use Rattle.font.specs.First.{first}

-- "All fields are big-endian." A field that does not lie whole in the bytes reads as 0, which section 2 never takes for data (`proofs/AnyReader.antt`).
unfoldable pub u16_at : List ℕ → ℕ → ℕ
u16_at s at = cond (leb (at + 2) (length s)) (get_or s at 0 * 256 + get_or s (at + 1) 0) 0

unfoldable pub u32_at : List ℕ → ℕ → ℕ
u32_at s at = cond (leb (at + 4) (length s)) (u16_at s at * 65536 + u16_at s (at + 2)) 0

-- a number of two bytes, and of four, with its bytes in the opposite order
unfoldable pub swap_pair : ℕ → ℕ
swap_pair n = n / 256 + n % 256 * 256

unfoldable pub swap_bytes : ℕ → ℕ
swap_bytes n = swap_pair (n / 65536) + swap_pair (n % 65536) * 65536

-- "A font starts with hexadecimal 00010000, `OTTO` or `true`"
unfoldable pub starts_as_font : ℕ → Bool
starts_as_font v = eqb v 0x00010000 || (eqb v 0x4F54544F || eqb v 0x74727565)

-- "a 16-bit table count, 6 more bytes, then 16-byte records: tag, checksum, offset, length." They stand from `start` on, where the font's directory begins.
unfoldable pub record_count : List ℕ → ℕ → ℕ
record_count file start = u16_at file (start + 4)

unfoldable pub record_tag : List ℕ → ℕ → ℕ → ℕ
record_tag file start i = u32_at file (start + 12 + 16 * i)

unfoldable pub record_offset : List ℕ → ℕ → ℕ → ℕ
record_offset file start i = u32_at file (start + 20 + 16 * i)

unfoldable pub record_length : List ℕ → ℕ → ℕ → ℕ
record_length file start i = u32_at file (start + 24 + 16 * i)

-- refusal 21 is "bad start or directory past file"; the header of 12 bytes is part of the directory
unfoldable pub directory_fits : List ℕ → ℕ → Bool
directory_fits file start =
    leb (start + 12) (length file)
    && (starts_as_font (u32_at file start) && leb (start + 12 + 16 * record_count file start) (length file))

-- "The first record with a tag counts." The count of records stands for none.
unfoldable pub first_record : List ℕ → ℕ → ℕ → ℕ
first_record file start tag = first (λ i. eqb (record_tag file start i) tag) (record_count file start)

-- "Table lookup shall answer absent, damaged, or found. Damaged means that the first record with the tag reaches past the file or the table is shorter than" needed.
-- "Table offsets count from the start of the file." What each answer means is said once more as `Answers.Means`.
unfoldable pub table_of_record : List ℕ → ℕ → ℕ → ℕ → Table
table_of_record file start least i =
    cond (leb least (record_length file start i) && leb (record_offset file start i + record_length file start i) (length file))
    (Found (record_offset file start i) (record_length file start i))
    Damaged

-- absent: no record has the tag, or there is no directory
unfoldable pub find_table : List ℕ → ℕ → ℕ → ℕ → Table
find_table file start tag least =
    cond (directory_fits file start && ltb (first_record file start tag) (record_count file start))
    (table_of_record file start least (first_record file start tag))
    Absent

-- "A found table is handed out as that part of the file and no other." Of an absent or a damaged one no byte is handed out.
unfoldable pub part_of : List ℕ → Table → List ℕ
part_of file Absent = []
part_of file Damaged = []
part_of file (Found offset len) = take len (drop offset file)

unfoldable pub table_data : List ℕ → ℕ → ℕ → ℕ → List ℕ
table_data file start tag least = part_of file (find_table file start tag least)

-- ---- the three answers, wherever a found table lies

pub data Handed : Type 0 where
  no_table : Handed
  damaged_table : Handed
  found_table : List ℕ → Handed

unfoldable pub hand_out : List ℕ → Table → Handed
hand_out file Absent = no_table
hand_out file Damaged = damaged_table
hand_out file (Found offset len) = found_table (part_of file (Found offset len))

unfoldable pub handed_table : List ℕ → ℕ → ℕ → ℕ → Handed
handed_table file start tag least = hand_out file (find_table file start tag least)

-- the bytes of a found table
unfoldable pub bytes_of : Handed → List ℕ
bytes_of no_table = []
bytes_of damaged_table = []
bytes_of (found_table bytes) = bytes

unfoldable pub is_damaged : Handed → Bool
is_damaged no_table = false
is_damaged damaged_table = true
is_damaged (found_table bytes) = false
