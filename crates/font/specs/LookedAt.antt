-- What section 2 looks at in a font file. Two files that are alike there are read alike (`proofs/LookedAt.antt`), whatever else they hold.
use Rattle.std.specs.Prelude.{ℕ, ◌+◌, ◌*◌, ◌≤◌, ◌<◌, max, ◌≡◌, Bool, true, false, List, [], length, take, None, Some}
use Rattle.font.specs.declared.tables.Table.TheVariants.{Found}
use Rattle.font.specs.declared.font.FontInfo.{FontInfo}
use Rattle.font.specs.Tables.{u16_at, directory_fits, find_table, table_data, Handed, no_table, damaged_table, found_table, handed_table, bytes_of}
use Rattle.font.specs.Collection.{font_start}
use Rattle.font.specs.Charmap.{subtable_offset_of, lies_in, pair_class, qualifies, charmap_index_of}
use Rattle.font.specs.StatedAttributes.{from_tables, read_attributes}
use Rattle.font.specs.Font.{fvar_of, axis_count_of, axes_of, refusal_at, font_refusal, refusal_under, from_font_ref, states_axis}

-- ---- tables that are alike

-- both have n bytes, and their first n are the same
pub record Agree (n : ℕ) (s t : List ℕ) : Type 0 where
  pub in_first : n ≤ length s
  pub in_second : n ≤ length t
  pub same : take n s ≡ take n t

-- OS/2, `post` and `head`: absent, damaged or found in both, with "at least" so many bytes, and of these alone a field is read
pub data Alike (n : ℕ) : Handed → Handed → Type 0 where
  absent : Alike n no_table no_table
  damaged : Alike n damaged_table damaged_table
  found : {s t : List ℕ} → Agree n s t → Alike n (found_table s) (found_table t)

-- `fvar`: the 16 bytes that it has at least, and the records of its axes
pub data AxesAlike (s t : List ℕ) : Type 0 where
  no_axes : axis_count_of s ≡ 0 → axis_count_of t ≡ 0 → AxesAlike s t
  with_axes_lem : (n : ℕ) → 16 ≤ n → u16_at s 4 + 20 * u16_at s 8 ≤ n → Agree n s t → AxesAlike s t

-- `cmap`: a record of c that qualifies has its number and its class in d too, and qualifies there; its subtable may lie elsewhere.
abbrev pub Keeps : List ℕ → List ℕ → Type 0
Keeps c d =
    (i : ℕ) → i < u16_at c 2 → qualifies c i ≡ true
    → (i < u16_at d 2) × (qualifies d i ≡ true) × (pair_class d i ≡ pair_class c i)

pub record RecordsAlike (c d : List ℕ) : Type 0 where
  pub forth : Keeps c d
  pub back : Keeps d c

-- ---- tables that are cut to what is looked at

-- OS/2, `post` and `head`: what is not found stays as it is
unfoldable pub cut_to : ℕ → Handed → Handed
cut_to n no_table = no_table
cut_to n damaged_table = damaged_table
cut_to n (found_table s) = found_table (take n s)

-- `fvar`: to its 16 bytes and its records, or left out where it gives no axes
pub data CutAxes (s t : List ℕ) : Type 0 where
  cut : t ≡ take (max 16 (u16_at s 4 + 20 * u16_at s 8)) s → CutAxes s t
  left_out : axis_count_of s ≡ 0 → t ≡ [] → CutAxes s t

-- `cmap`: d has the records of c, but for some at the end that do not lie in c. Each of d's lies in it, with two bytes at its offset, exactly
-- where it does in c; the offset may be another.
pub record CutRecords (c d : List ℕ) : Type 0 where
  pub fewer : u16_at d 2 ≤ u16_at c 2
  pub rest : (i : ℕ) → u16_at d 2 ≤ i → i < u16_at c 2 → lies_in c i ≡ false
  pub lies : (i : ℕ) → i < u16_at d 2 → lies_in d i ≡ lies_in c i
  pub platform : (i : ℕ) → i < u16_at d 2 → u16_at d (4 + 8 * i) ≡ u16_at c (4 + 8 * i)
  pub encoding : (i : ℕ) → i < u16_at d 2 → u16_at d (6 + 8 * i) ≡ u16_at c (6 + 8 * i)

-- ---- the five tables

-- their tags, with the bytes that each has at least
pub data Five : ℕ → ℕ → Type 0 where
  os2 : Five 0x4F532F32 78
  post : Five 0x706F7374 32
  head : Five 0x68656164 54
  fvar : Five 0x66766172 16
  cmap : Five 0x636D6170 4

-- However they are found, s and t hand out a table by its tag and the length that it has at least. What is looked at is the same; a damaged `fvar` is as none is,
-- and so is a damaged `cmap`:
pub record SameTables (s t : ℕ → ℕ → Handed) : Type 0 where
  pub os2 : Alike 78 (s 0x4F532F32 78) (t 0x4F532F32 78)
  pub post : Alike 32 (s 0x706F7374 32) (t 0x706F7374 32)
  pub head : Alike 54 (s 0x68656164 54) (t 0x68656164 54)
  pub fvar : AxesAlike (bytes_of (s 0x66766172 16)) (bytes_of (t 0x66766172 16))
  pub cmap : RecordsAlike (bytes_of (s 0x636D6170 4)) (bytes_of (t 0x636D6170 4))

-- each is absent in both, damaged in both, or found in both with the same bytes; of `fvar` and `cmap` the bytes alone count
pub record EqualTables (s t : ℕ → ℕ → Handed) : Type 0 where
  pub os2 : s 0x4F532F32 78 ≡ t 0x4F532F32 78
  pub post : s 0x706F7374 32 ≡ t 0x706F7374 32
  pub head : s 0x68656164 54 ≡ t 0x68656164 54
  pub fvar : bytes_of (s 0x66766172 16) ≡ bytes_of (t 0x66766172 16)
  pub cmap : bytes_of (s 0x636D6170 4) ≡ bytes_of (t 0x636D6170 4)

-- those of t are cut to what is looked at in those of s
pub record CutTables (s t : ℕ → ℕ → Handed) : Type 0 where
  pub os2 : t 0x4F532F32 78 ≡ cut_to 78 (s 0x4F532F32 78)
  pub post : t 0x706F7374 32 ≡ cut_to 32 (s 0x706F7374 32)
  pub head : t 0x68656164 54 ≡ cut_to 54 (s 0x68656164 54)
  pub fvar : CutAxes (bytes_of (s 0x66766172 16)) (bytes_of (t 0x66766172 16))
  pub cmap : CutRecords (bytes_of (s 0x636D6170 4)) (bytes_of (t 0x636D6170 4))

-- ---- what is read of font files, each from its directory's start on

-- the charmap index of a font is that of the record i of its `cmap`, which qualifies
pub record OfRecord (file : List ℕ) (start i : ℕ) (symbol roman : Bool) : Type 0 where
  pub offset : ℕ
  pub len : ℕ
  pub lies : find_table file start 0x636D6170 4 ≡ Found offset len
  pub stated : i < u16_at (table_data file start 0x636D6170 4) 2
  pub qualified : qualifies (table_data file start 0x636D6170 4) i ≡ true
  pub index : charmap_index_of file start
      ≡ Some
      (record {
        subtable_offset = offset + subtable_offset_of (table_data file start 0x636D6170 4) i;
        is_symbol = symbol;
        is_mac_roman = roman;
      })

-- no index in both, or in both that of one record, with the same flags
pub data SameIndex (f : List ℕ) (a : ℕ) (g : List ℕ) (b : ℕ) : Type 0 where
  missing : charmap_index_of f a ≡ None → charmap_index_of g b ≡ None → SameIndex f a g b
  of_record : (i : ℕ) (symbol roman : Bool) → OfRecord f a i symbol roman → OfRecord g b i symbol roman → SameIndex f a g b

pub record SameReading (f : List ℕ) (a : ℕ) (g : List ℕ) (b : ℕ) : Type 0 where
  pub attributes : (reading : ℕ) → read_attributes reading f a ≡ read_attributes reading g b
  pub from_tables_lem : (reading : ℕ) → from_tables reading f a ≡ from_tables reading g b
  pub axis_count_lem : axis_count_of (fvar_of f a) ≡ axis_count_of (fvar_of g b)
  pub axes : axes_of (fvar_of f a) (axis_count_of (fvar_of f a)) ≡ axes_of (fvar_of g b) (axis_count_of (fvar_of g b))
  pub states : (tag : ℕ) → states_axis f a tag ≡ states_axis g b tag
  pub refusal : refusal_at f a ≡ refusal_at g b
  pub index : SameIndex f a g b

-- a face whose charmap subtable is said to lie at n
unfoldable pub subtable_at : ℕ → FontInfo → FontInfo
subtable_at n face =
    record {
      attributes = face.attributes;
      axes = face.axes;
      axis_count = face.axis_count;
      charmap_index = record {
        subtable_offset = n;
        is_symbol = face.charmap_index.is_symbol;
        is_mac_roman = face.charmap_index.is_mac_roman;
      };
    }

-- ---- a font of a collection and a lone font with the same tables

-- The fonts m of f and n of g: both directories fit, and each of the five tables has the same bytes in both, is absent in both or damaged in both; `fvar` and `cmap`
-- may also be absent in one and damaged in the other.
pub record SameFont (f : List ℕ) (m : ℕ) (g : List ℕ) (n : ℕ) : Type 0 where
  pub first_fits : directory_fits f (font_start f m) ≡ true
  pub second_fits : directory_fits g (font_start g n) ≡ true
  pub tables : EqualTables (handed_table f (font_start f m)) (handed_table g (font_start g n))

-- the offset x in f and y in g differ as the places do where the `cmap` of the two fonts lies
pub record MovedWithCmap (f : List ℕ) (m : ℕ) (g : List ℕ) (n : ℕ) (x y : ℕ) : Type 0 where
  pub first : ℕ
  pub first_length : ℕ
  pub second : ℕ
  pub second_length : ℕ
  pub first_lies : find_table f (font_start f m) 0x636D6170 4 ≡ Found first first_length
  pub second_lies : find_table g (font_start g n) 0x636D6170 4 ≡ Found second second_length
  pub moved : x + second ≡ y + first

-- "as for a lone font with the same tables, save the `cmap` offset". Proved in proofs/SameFonts.antt.
pub record ReadAlike (f : List ℕ) (m : ℕ) (g : List ℕ) (n : ℕ) : Type 0 where
  pub alike : SameReading f (font_start f m) g (font_start g n)
  pub refusal : font_refusal f m ≡ font_refusal g n
  pub face : (reading : ℕ)
      → (from_font_ref reading f m).font ≡ subtable_at (from_font_ref reading f m).font.charmap_index.subtable_offset (from_font_ref reading g n).font
  pub offset : (reading : ℕ) → refusal_under reading f m ≡ 0
      → MovedWithCmap f m g n (from_font_ref reading f m).font.charmap_index.subtable_offset (from_font_ref reading g n).font.charmap_index.subtable_offset
