-- Refusal 31 is all that moved in font reading when damaged tables were told from absent ones (`specs/Unmoved.antt`). Assumes nothing.
use Prim.Native.Nat.{ℕ, ◌+◌}
use mathlib.Core.Path.{◌≡◌, refl, sym, ap, ◌∙◌}
use mathlib.Core.Bool.{Bool, true, false, ◌&&◌, cond}
use mathlib.Core.List.{List, [], ◌∷◌, ◌++◌}
use lib.ListN.{length, replicate}
use lib.Dec.{leb, ltb}
use borrow.Author.Tests.{lt-ltb}
use Rattle.font.specs.declared.tables.Table.{Table}
use Rattle.font.specs.declared.tables.Table.TheVariants.{Absent, Damaged, Found}
use Rattle.font.specs.declared.attributes.FontStyle.TheVariants.{Normal}
use Rattle.font.specs.StatedAttributes.{Refused, Stated}
use Rattle.font.specs.First.{first, some}
use Rattle.font.specs.Single.{single}
use Rattle.font.specs.Attributes.{attributes_of}
use Rattle.font.specs.Slant.{is_reading}
use Rattle.font.specs.Tables.{u16_at, u32_at, starts_as_font, record_count, record_tag, record_offset, record_length, directory_fits, first_record, table_of_record, find_table, part_of, table_data, hand_out, handed_table}
use Rattle.font.specs.Collection.{is_collection, header_fits, font_count, offset_of, font_start}
use Rattle.font.specs.Charmap.{is_pair, class_of, subtable_offset_of, lies_in, pair_class, qualifies, some_qualifies, index_of, index_in, charmap_index_of}
use Rattle.font.specs.StatedAttributes.{present, bit, width_of_class, os2_style, from_os2_post, head_style, head_weight, from_head, from_tables, needs_post, needed_damaged, loses_needed, read_attributes}
use Rattle.font.specs.Font.{fvar_of, axis_count_of, axes_of, has_index, refusal_at, font_refusal, refusal_under, face_of, checked_by, from_font_ref}
use Rattle.font.specs.Unmoved.{record_before, table_before, data_before, attributes_before, fvar_before, charmap_before, refusal_at_before, refusal_before, face_before, font_before, After31, accepted, charmap, axes, Unmoved}
use Rattle.font.proofs.Damage.{numbered_31, losing_31}

-- ---- the two lookups differ where the answer is damaged, and nowhere else

-- a damaged table for an absent one
forget : Table → Table
forget Absent = Absent
forget Damaged = Absent
forget (Found offset len) = Found offset len

module _ (file : List ℕ) (start : ℕ) where
  record_forgets : (least i : ℕ) → record_before file start least i ≡ forget (table_of_record file start least i)
  unfolding record_before table_of_record forget
  record_forgets least i = go (leb least (record_length file start i) && leb (record_offset file start i + record_length file start i) (length file))
    where
      go : (b : Bool) → cond b (Found (record_offset file start i) (record_length file start i)) Absent
          ≡ forget (cond b (Found (record_offset file start i) (record_length file start i)) Damaged)
      go true = refl
      go false = refl

  lookup_forgets : (tag least : ℕ) → table_before file start tag least ≡ forget (find_table file start tag least)
  unfolding table_before find_table forget
  lookup_forgets tag least = go (directory_fits file start && ltb (first_record file start tag) (record_count file start))
    where
      go : (b : Bool) → cond b (record_before file start least (first_record file start tag)) Absent
          ≡ forget (cond b (table_of_record file start least (first_record file start tag)) Absent)
      go true = record_forgets least (first_record file start tag)
      go false = refl

-- neither bytes nor an index come of it
forget_part : (file : List ℕ) (t : Table) → part_of file t ≡ part_of file (forget t)
unfolding part_of forget
forget_part file Absent = refl
forget_part file Damaged = refl
forget_part file (Found offset len) = refl

forget_index : (file : List ℕ) (t : Table) → index_in file t ≡ index_in file (forget t)
unfolding index_in forget
forget_index file Absent = refl
forget_index file Damaged = refl
forget_index file (Found offset len) = refl

-- ---- from a directory's start on

module _ (file : List ℕ) (start : ℕ) where
  pub data_same : (tag least : ℕ) → table_data file start tag least ≡ data_before file start tag least
  unfolding table_data data_before
  data_same tag least = forget_part file (find_table file start tag least) ∙ ap (part_of file) (sym (lookup_forgets file start tag least))

  pub fvar_same : fvar_of file start ≡ fvar_before file start
  unfolding fvar_of fvar_before
  fvar_same = data_same 0x66766172 16

  pub charmap_same : charmap_index_of file start ≡ charmap_before file start
  unfolding charmap_index_of charmap_before
  charmap_same = forget_index file (find_table file start 0x636D6170 4) ∙ ap (index_in file) (sym (lookup_forgets file start 0x636D6170 4))

  pub from_tables_same : (reading : ℕ) → from_tables reading file start ≡ attributes_before reading file start
  unfolding from_tables attributes_before
  from_tables_same reading = rw (data_same 0x4F532F32 78, data_same 0x706F7374 32, data_same 0x68656164 54)

  pub face_same : (reading : ℕ) → face_of reading file start ≡ face_before reading file start
  unfolding face_of face_before
  face_same reading = rw (from_tables_same reading, fvar_same, charmap_same)

  refusal_same : loses_needed file start ≡ false → refusal_at file start ≡ refusal_at_before file start
  unfolding refusal_at refusal_at_before
  refusal_same h = rw (h, fvar_same, charmap_same)

  module _ (reading : ℕ) (known : is_reading reading ≡ true) where
    stated_same : loses_needed file start ≡ false → read_attributes reading file start ≡ Stated (attributes_before reading file start)
    unfolding read_attributes
    stated_same h = rw (known, h, from_tables_same reading)

    none_stated : loses_needed file start ≡ true → read_attributes reading file start ≡ Refused 31
    unfolding read_attributes
    none_stated h = rw (known, h)

-- ---- the font of a number

module _ (reading : ℕ) (known : is_reading reading ≡ true) (file : List ℕ) (number : ℕ) where
  number_same : loses_needed file (font_start file number) ≡ false → font_refusal file number ≡ refusal_before file number
  unfolding font_refusal refusal_before
  number_same h = rw (refusal_same file (font_start file number) h)

  font_same : font_refusal file number ≡ refusal_before file number → from_font_ref reading file number ≡ font_before reading file number
  unfolding from_font_ref refusal_under checked_by font_before
  font_same e = rw (known, e, face_same file (font_start file number) reading)

  -- one that is refused by 31 has header, number and directory
  after_31 : font_refusal file number ≡ 31 → After31 (refusal_before file number)
  unfolding refusal_before refusal_at_before
  after_31 z =
      let l = numbered_31 file number z in
      rw (l.header, lt-ltb number (font_count file) l.below, l.fits)
      (go (has_index (charmap_before file (font_start file number))) (leb (axis_count_of (fvar_before file (font_start file number))) 16))
    where
      go : (a b : Bool) → After31 (cond a (cond b 0 23) 22)
      go true true = accepted refl
      go true false = axes refl
      go false b = charmap refl

  unless_31 : (font_refusal file number ≡ 31 → ⊥) → font_refusal file number ≡ refusal_before file number
  unless_31 n = go (loses_needed file (font_start file number)) refl
    where
      go : (b : Bool) → loses_needed file (font_start file number) ≡ b → font_refusal file number ≡ refusal_before file number
      go true h = absurd (n (losing_31 file number h))
      go false h = number_same h

  pub unmoved : Unmoved reading file number
  unmoved =
      record {
        axis_count_lem = ap axis_count_of (fvar_same file (font_start file number));
        axes = ap (λ (fvar : List ℕ). axes_of fvar (axis_count_of fvar)) (fvar_same file (font_start file number));
        charmap = charmap_same file (font_start file number);
        attributes = stated_same file (font_start file number) reading known;
        refusal = number_same;
        font = λ h. font_same (number_same h);
        lost = none_stated file (font_start file number) reading known;
        by_31 = losing_31 file number;
        after = after_31;
        same_number = unless_31;
        same_font = λ n. font_same (unless_31 n);
      }

-- ---- an example: 02's "half-copied file", of a font with OS/2, `cmap` and `head`, in this order in the directory. OS/2 lies last.

-- one record, (3,1), whose subtable begins at 12
unfoldable pub subtables : List ℕ
subtables = 0 ∷ 0 ∷ 0 ∷ 1 ∷ 0 ∷ 3 ∷ 0 ∷ 1 ∷ 0 ∷ 0 ∷ 0 ∷ 12 ∷ 0 ∷ 4 ∷ []

unfoldable pub directory : List ℕ
directory =
    0 ∷ 1 ∷ 0 ∷ 0 ∷ 0 ∷ 3 ∷ 0 ∷ 0 ∷ 0 ∷ 0 ∷ 0 ∷ 0
    ∷ 0x4F ∷ 0x53 ∷ 0x2F ∷ 0x32 ∷ 0 ∷ 0 ∷ 0 ∷ 0 ∷ 0 ∷ 0 ∷ 0 ∷ 128 ∷ 0 ∷ 0 ∷ 0 ∷ 78
    ∷ 0x63 ∷ 0x6D ∷ 0x61 ∷ 0x70 ∷ 0 ∷ 0 ∷ 0 ∷ 0 ∷ 0 ∷ 0 ∷ 0 ∷ 60 ∷ 0 ∷ 0 ∷ 0 ∷ 14
    ∷ 0x68 ∷ 0x65 ∷ 0x61 ∷ 0x64 ∷ 0 ∷ 0 ∷ 0 ∷ 0 ∷ 0 ∷ 0 ∷ 0 ∷ 74 ∷ 0 ∷ 0 ∷ 0 ∷ 54 ∷ []

-- the first 6 bytes of OS/2, with the weight class 700, and the other 72, with the width class 5. `head` is regular.
unfoldable pub half_copied : List ℕ
half_copied = directory ++ (subtables ++ (replicate 54 0 ++ (0 ∷ 0 ∷ 0 ∷ 0 ∷ 2 ∷ 188 ∷ [])))

unfoldable pub whole : List ℕ
whole = half_copied ++ (0 ∷ 5 ∷ replicate 70 0)

-- The whole font is bold. Half-copied it came out regular, and is refused now.
pub record Example : Type 0 where
  pub bold : read_attributes 0 whole (font_start whole 0) ≡ Stated (attributes_of (width_of_class 5) Normal (single 700))
  pub taken : font_refusal whole 0 ≡ 0
  pub cut : find_table half_copied (font_start half_copied 0) 0x4F532F32 78 ≡ Damaged
  pub refused : font_refusal half_copied 0 ≡ 31
  pub before : refusal_before half_copied 0 ≡ 0
  pub regular : (font_before 0 half_copied 0).font.attributes ≡ attributes_of (single 1) Normal (single 400)

pub example : Example
unfolding whole half_copied subtables directory is_reading is_collection header_fits font_count offset_of font_start font_refusal refusal_at directory_fits starts_as_font record_count record_tag record_offset record_length first_record first table_of_record find_table part_of table_data hand_out handed_table u16_at u32_at needs_post needed_damaged loses_needed read_attributes from_tables present bit os2_style from_os2_post head_style head_weight from_head has_index charmap_index_of index_in index_of some_qualifies some qualifies lies_in pair_class class_of is_pair subtable_offset_of fvar_of axis_count_of record_before table_before data_before attributes_before fvar_before charmap_before refusal_at_before refusal_before face_before font_before
example = record { bold = refl; taken = refl; cut = refl; refused = refl; before = refl; regular = refl }
