use Rattle.std.specs.Prelude.{None, Some}
-- An absent or damaged table and an unreadable field are never taken for data: each reader that is right for fields that lie whole in the bytes gives the attributes, the
-- charmap index and the face that the definitions give (`FieldReaders.antt`), whatever it gives for other fields. Assumes nothing.
use Prim.Native.Nat.{ℕ, ◌+◌, ◌*◌, ◌≤◌, ◌<◌}
use mathlib.Core.Path.{◌≡◌, refl, ap}
use mathlib.Core.Bool.{Bool, true, false, ◌&&◌, cond}
use mathlib.Core.List.{List, []}
use native.Mathlib.Omega.{arith}
use lib.ListN.{length}
use lib.Dec.{leb, ltb, eqb}
use borrow.Author.Tests.{leb-true, le-leb, lt-ltb, le-ltb, ltb-true}
use Rattle.font.specs.declared.tables.Table.{Table}
use Rattle.font.specs.declared.tables.Table.TheVariants.{Absent, Damaged, Found}
use Rattle.font.specs.declared.charmap.CharmapIndex.{CharmapIndex}
use Rattle.font.specs.declared.font.AxisInfo.{AxisInfo}
use Rattle.font.specs.Refusals.{Checked}
use Rattle.font.specs.StatedAttributes.{Refused, Stated}
use Rattle.font.specs.declared.font.FontInfo.{FontInfo}
use Rattle.font.specs.Attributes.{default_attributes}
use Rattle.font.specs.Slant.{is_reading}
use Rattle.font.specs.Tables.{u16_at, u32_at, starts_as_font, record_count, record_tag, record_offset, record_length, directory_fits, first_record, table_of_record, find_table, part_of, table_data, hand_out, handed_table, is_damaged}
use Rattle.font.specs.Collection.{is_collection, header_fits, font_count, offsets_fit, offset_of, font_start}
use Rattle.font.specs.StatedAttributes.{present, post_angle, os2_style, from_os2_post, from_head, from_tables, needs_post, needed_damaged, loses_needed, read_attributes}
use Rattle.font.specs.First.{first}
use Rattle.font.specs.Charmap.{class_of, subtable_offset_of, lies_in, pair_class, qualifies, record_class, some_qualifies, best_class, best_record, index_of, index_in, charmap_index_of}
use Rattle.font.specs.Font.{fvar_of, axis_count_of, axis_at, no_axis, axes_of, refusal_at, font_refusal, refusal_under, empty_font, face_of, checked_by, from_font_ref, states_axis}
use Rattle.font.proofs.FieldReaders.{Fields, bytes_at, lost, count_by, start_by, fits_by, record_by, table_by, find_by, angle_by, os2_by, head_by, without_by, stated_by, attributes_by, needs_post_by, needed_by, loses_by, count_in_by, axis_count_by, axis_by, axes_by, states_by, class_by, qualifies_by, record_class_by, index_in_by, index_by, refusal_at_by, refusal_by, under_by, face_by, font_by}
use Rattle.font.proofs.First.{first_same}
use Rattle.font.proofs.Tabulated.{same}
use Rattle.font.proofs.Lookup.{records_inside, long}
use Rattle.font.proofs.Records.{inside, best_qualified}

-- ---- a found table has its bytes
there : (font : List ℕ) (start tag least offset len : ℕ) → find_table font start tag least ≡ Found offset len → 0 < least → present (bytes_at font offset len) ≡ true
unfolding present
there font start tag least offset len e l = lt-ltb 0 (length (bytes_at font offset len)) (omega (arith, long font start tag least offset len e))

-- ---- what a test of the definitions says of the fields that they then read

-- the records of the axes that `fvar` gives lie in it
axis_inside : (fvar : List ℕ) (i : ℕ) → i < axis_count_of fvar → u16_at fvar 4 + 20 * i + 20 ≤ length fvar
unfolding axis_count_of
axis_inside fvar i = go (present fvar) (eqb (u16_at fvar 10) 20) (leb (u16_at fvar 4 + 20 * u16_at fvar 8) (length fvar)) refl
  where
    go : (a b c : Bool) → leb (u16_at fvar 4 + 20 * u16_at fvar 8) (length fvar) ≡ c → i < cond (a && (b && c)) (u16_at fvar 8) 0
        → u16_at fvar 4 + 20 * i + 20 ≤ length fvar
    go true true true e l = omega (arith, leb-true (u16_at fvar 4 + 20 * u16_at fvar 8) (length fvar) e)
    go true true false e l = absurd (omega arith)
    go true false c e l = absurd (omega arith)
    go false b c e l = absurd (omega arith)

-- ---- every right reader gives the same

-- right for each field that lies whole in the bytes; of other fields it says nothing
pub record Right (r16 r32 : Fields) : Type 0 where
  pub whole16 : (s : List ℕ) (at : ℕ) → at + 2 ≤ length s → r16 s at ≡ u16_at s at
  pub whole32 : (s : List ℕ) (at : ℕ) → at + 4 ≤ length s → r32 s at ≡ u32_at s at

-- such is each reader that answers as it likes where a field does not lie whole in the bytes
abbrev pub fill16 : Fields → Fields
fill16 other s at = cond (leb (at + 2) (length s)) (u16_at s at) (other s at)

abbrev pub fill32 : Fields → Fields
fill32 other s at = cond (leb (at + 4) (length s)) (u32_at s at) (other s at)

pub filled : (other16 other32 : Fields) → Right (fill16 other16) (fill32 other32)
filled other16 other32 =
    record { whole16 = λ s at h. rw (le-leb (at + 2) (length s) h); whole32 = λ s at h. rw (le-leb (at + 4) (length s) h) }

module _ (r16 r32 : Fields) (right : Right r16 r32) where
  -- ---- the directory
  fits_same : (font : List ℕ) (start : ℕ) → fits_by r16 r32 font start ≡ directory_fits font start
  unfolding fits_by directory_fits record_count
  fits_same font start = go (leb (start + 12) (length font)) refl
    where
      go : (b : Bool) → leb (start + 12) (length font) ≡ b
          → (b && (starts_as_font (r32 font start) && leb (start + 12 + 16 * r16 font (start + 4)) (length font))) ≡ (b && (starts_as_font (u32_at font start) && leb (start + 12 + 16 * u16_at font (start + 4)) (length font)))
      go true e = let l = leb-true (start + 12) (length font) e in rw (right.whole32 font start (omega arith), right.whole16 font (start + 4) (omega arith))
      go false e = refl

  module _ (font : List ℕ) (start : ℕ) (fits : directory_fits font start ≡ true) where
    count_same : r16 font (start + 4) ≡ record_count font start
    unfolding record_count
    count_same = right.whole16 font (start + 4) (omega (arith, records_inside font start fits))

    record_same : (tag : ℕ) → record_by r16 r32 font start tag ≡ first_record font start tag
    unfolding record_by first_record record_tag
    record_same tag =
        rw count_same
        (first_same (λ i. eqb (r32 font (start + 12 + 16 * i)) tag) (λ i. eqb (u32_at font (start + 12 + 16 * i)) tag) (record_count font start)
        (λ i l. ap (λ (t : ℕ). eqb t tag) (right.whole32 font (start + 12 + 16 * i) (omega (arith, records_inside font start fits)))))

    table_same : (least i : ℕ) → i < record_count font start → table_by r16 r32 font start least i ≡ table_of_record font start least i
    unfolding table_by table_of_record record_offset record_length
    table_same least i l =
        rw (right.whole32 font (start + 24 + 16 * i) (omega (arith, records_inside font start fits)), right.whole32 font (start + 20 + 16 * i) (omega (arith, records_inside font start fits)))

  find_same : (font : List ℕ) (start tag least : ℕ) → find_by r16 r32 font start tag least ≡ find_table font start tag least
  unfolding find_by find_table
  find_same font start tag least = rw (fits_same font start) (go (directory_fits font start) refl)
    where
      go : (b : Bool) → directory_fits font start ≡ b
          → cond (b && ltb (record_by r16 r32 font start tag) (r16 font (start + 4))) (table_by r16 r32 font start least (record_by r16 r32 font start tag)) Absent
          ≡ cond (b && ltb (first_record font start tag) (record_count font start)) (table_of_record font start least (first_record font start tag)) Absent
      go false e = refl
      go true e = rw (count_same font start e, record_same font start e tag) (found (ltb (first_record font start tag) (record_count font start)) refl)
        where
          found : (b : Bool) → ltb (first_record font start tag) (record_count font start) ≡ b
              → cond b (table_by r16 r32 font start least (first_record font start tag)) Absent ≡ cond b (table_of_record font start least (first_record font start tag)) Absent
          found true l = table_same font start e least (first_record font start tag) (ltb-true (first_record font start tag) (record_count font start) l)
          found false l = refl

  -- ---- attributes
  angle_same : (reading : ℕ) (font : List ℕ) (start : ℕ) (t : Table) → find_table font start 0x706F7374 32 ≡ t → angle_by r16 r32 reading font t ≡ post_angle reading (part_of font t)
  unfolding angle_by post_angle part_of present
  angle_same reading font start Absent e = refl
  angle_same reading font start Damaged e = refl
  angle_same reading font start (Found o n) e = rw (there font start 0x706F7374 32 o n e (omega arith), right.whole32 (bytes_at font o n) 4 (omega (arith, long font start 0x706F7374 32 o n e)))

  os2_same : (reading : ℕ) (os2 post : List ℕ) → 78 ≤ length os2 → os2_by r16 r32 os2 (post_angle reading post) ≡ from_os2_post reading os2 post
  unfolding os2_by from_os2_post os2_style
  os2_same reading os2 post l = rw (right.whole16 os2 6 (omega arith), right.whole16 os2 62 (omega arith), right.whole16 os2 4 (omega arith))

  head_same : (head : List ℕ) → 54 ≤ length head → head_by r16 r32 head ≡ from_head head
  unfolding head_by from_head
  head_same head l = rw (right.whole16 head 44 (omega arith))

  without_same : (font : List ℕ) (start : ℕ) (head : Table) → find_table font start 0x68656164 54 ≡ head
      → without_by r16 r32 font head ≡ cond (present (part_of font head)) (from_head (part_of font head)) default_attributes
  unfolding without_by part_of present
  without_same font start (Found o n) h =
      rw (there font start 0x68656164 54 o n h (omega arith)) (head_same (bytes_at font o n) (long font start 0x68656164 54 o n h))
  without_same font start Damaged h = refl
  without_same font start Absent h = refl

  stated_same : (reading : ℕ) (font : List ℕ) (start : ℕ) (os2 post head : Table) → find_table font start 0x4F532F32 78 ≡ os2 → find_table font start 0x706F7374 32 ≡ post → find_table font start 0x68656164 54 ≡ head
      → stated_by r16 r32 reading font os2 post head
      ≡ cond (present (part_of font os2)) (from_os2_post reading (part_of font os2) (part_of font post)) (cond (present (part_of font head)) (from_head (part_of font head)) default_attributes)
  unfolding stated_by part_of present
  stated_same reading font start (Found o n) post head e p h =
      rw (there font start 0x4F532F32 78 o n e (omega arith), angle_same reading font start post p) (os2_same reading (bytes_at font o n) (part_of font post) (long font start 0x4F532F32 78 o n e))
  stated_same reading font start Damaged post head e p h = without_same font start head h
  stated_same reading font start Absent post head e p h = without_same font start head h

  tables_same : (reading : ℕ) (font : List ℕ) (start : ℕ) → attributes_by r16 r32 reading font start ≡ from_tables reading font start
  unfolding attributes_by from_tables table_data
  tables_same reading font start =
      rw (find_same font start 0x4F532F32 78, find_same font start 0x706F7374 32, find_same font start 0x68656164 54)
      (stated_same reading font start (find_table font start 0x4F532F32 78) (find_table font start 0x706F7374 32) (find_table font start 0x68656164 54) refl refl refl)

  -- whether a table that they need is damaged
  lost_same : (font : List ℕ) (t : Table) → lost t ≡ is_damaged (hand_out font t)
  unfolding lost is_damaged hand_out
  lost_same font Absent = refl
  lost_same font Damaged = refl
  lost_same font (Found o n) = refl

  needed_same : (font : List ℕ) (start : ℕ) (os2 post head : Table) → find_table font start 0x4F532F32 78 ≡ os2
      → needed_by r16 r32 font os2 post head ≡ needed_damaged (hand_out font os2) (hand_out font head) (hand_out font post)
  unfolding needed_by needed_damaged hand_out part_of needs_post_by needs_post
  needed_same font start Absent post head e = lost_same font head
  needed_same font start Damaged post head e = refl
  needed_same font start (Found o n) post head e =
      rw (right.whole16 (bytes_at font o n) 62 (omega (arith, long font start 0x4F532F32 78 o n e)), lost_same font post)

  loses_same : (font : List ℕ) (start : ℕ) → loses_by r16 r32 font start ≡ loses_needed font start
  unfolding loses_by loses_needed handed_table
  loses_same font start =
      rw (find_same font start 0x4F532F32 78, find_same font start 0x706F7374 32, find_same font start 0x68656164 54)
      (needed_same font start (find_table font start 0x4F532F32 78) (find_table font start 0x706F7374 32) (find_table font start 0x68656164 54) refl)

  pub attributes_same : (reading : ℕ) (font : List ℕ) (start : ℕ)
      → cond (is_reading reading) (cond (loses_by r16 r32 font start) (Refused 31) (Stated (attributes_by r16 r32 reading font start))) (Refused 25)
      ≡ read_attributes reading font start
  unfolding read_attributes
  attributes_same reading font start = rw (loses_same font start, tables_same reading font start)

  -- ---- axes
  count_in_same : (fvar : List ℕ) → 16 ≤ length fvar → present fvar ≡ true → count_in_by r16 r32 fvar ≡ axis_count_of fvar
  unfolding count_in_by axis_count_of
  count_in_same fvar l h = rw (h, right.whole16 fvar 10 (omega arith), right.whole16 fvar 4 (omega arith), right.whole16 fvar 8 (omega arith))

  module _ (font : List ℕ) (start o n : ℕ) (e : find_table font start 0x66766172 16 ≡ Found o n) where
    found_count : count_in_by r16 r32 (bytes_at font o n) ≡ axis_count_of (bytes_at font o n)
    found_count = count_in_same (bytes_at font o n) (long font start 0x66766172 16 o n e) (there font start 0x66766172 16 o n e (omega arith))

    found_axis : (i : ℕ) → i < axis_count_of (bytes_at font o n) → axis_by r16 r32 (bytes_at font o n) i ≡ axis_at (bytes_at font o n) i
    unfolding axis_by axis_at
    found_axis i l =
        let fvar = bytes_at font o n in
        let at = u16_at fvar 4 + 20 * i in
        let end = axis_inside fvar i l in
        rw (right.whole16 fvar 4 (omega (arith, long font start 0x66766172 16 o n e)), right.whole32 fvar at (omega arith), right.whole32 fvar (at + 4) (omega arith), right.whole32 fvar (at + 8) (omega arith), right.whole32 fvar (at + 12) (omega arith))

  axis_count_same : (font : List ℕ) (start : ℕ) (t : Table) → find_table font start 0x66766172 16 ≡ t → axis_count_by r16 r32 font t ≡ axis_count_of (part_of font t)
  unfolding axis_count_by axis_count_of part_of present
  axis_count_same font start Absent e = refl
  axis_count_same font start Damaged e = refl
  axis_count_same font start (Found o n) e = found_count font start o n e

  axes_same : (font : List ℕ) (start : ℕ) (t : Table) → find_table font start 0x66766172 16 ≡ t → axes_by r16 r32 font t ≡ axes_of (part_of font t) (axis_count_of (part_of font t))
  unfolding axes_by axes_of part_of present axis_count_of
  axes_same font start Absent e = same (λ i. no_axis) (λ i. cond (ltb i 0) (axis_at [] i) no_axis) 16 no_axis (λ i l. rw (le-ltb i 0 (omega arith)))
  axes_same font start Damaged e = same (λ i. no_axis) (λ i. cond (ltb i 0) (axis_at [] i) no_axis) 16 no_axis (λ i l. rw (le-ltb i 0 (omega arith)))
  axes_same font start (Found o n) e =
      let fvar = bytes_at font o n in
      rw (found_count font start o n e)
      (same (λ i. cond (ltb i (axis_count_of fvar)) (axis_by r16 r32 fvar i) no_axis) (λ i. cond (ltb i (axis_count_of fvar)) (axis_at fvar i) no_axis) 16 no_axis
      (λ i l. at i (ltb i (axis_count_of fvar)) refl))
    where
      at : (i : ℕ) (b : Bool) → ltb i (axis_count_of (bytes_at font o n)) ≡ b
          → cond b (axis_by r16 r32 (bytes_at font o n) i) no_axis ≡ cond b (axis_at (bytes_at font o n) i) no_axis
      at i true g = found_axis font start o n e i (ltb-true i (axis_count_of (bytes_at font o n)) g)
      at i false g = refl

  states_same : (font : List ℕ) (start tag : ℕ) (t : Table) → find_table font start 0x66766172 16 ≡ t
      → states_by r16 r32 font tag t ≡ ltb (first (λ i. eqb (axis_at (part_of font t) i).tag tag) (axis_count_of (part_of font t))) (axis_count_of (part_of font t))
  unfolding states_by part_of present axis_count_of first
  states_same font start tag Absent e = refl
  states_same font start tag Damaged e = refl
  states_same font start tag (Found o n) e =
      let fvar = bytes_at font o n in
      rw (found_count font start o n e)
      (ap (λ (k : ℕ). ltb k (axis_count_of fvar))
      (first_same (λ i. eqb (axis_by r16 r32 fvar i).tag tag) (λ i. eqb (axis_at fvar i).tag tag) (axis_count_of fvar)
      (λ i l. ap (λ (a : AxisInfo). eqb a.tag tag) (found_axis font start o n e i l))))

  pub axis_stated_same : (font : List ℕ) (start tag : ℕ) → states_by r16 r32 font tag (find_by r16 r32 font start 0x66766172 16) ≡ states_axis font start tag
  unfolding states_axis fvar_of table_data
  axis_stated_same font start tag = rw (find_same font start 0x66766172 16) (states_same font start tag (find_table font start 0x66766172 16) refl)

  -- ---- `cmap`
  qualifies_same : (cmap : List ℕ) (i : ℕ) → qualifies_by r16 r32 cmap i ≡ qualifies cmap i
  unfolding qualifies_by class_by qualifies lies_in subtable_offset_of pair_class
  qualifies_same cmap i = go (leb (12 + 8 * i) (length cmap)) refl
    where
      go : (b : Bool) → leb (12 + 8 * i) (length cmap) ≡ b
          → ((b && leb (r32 cmap (8 + 8 * i) + 2) (length cmap)) && ltb (class_of (r16 cmap (4 + 8 * i)) (r16 cmap (6 + 8 * i))) 4)
          ≡ ((b && leb (u32_at cmap (8 + 8 * i) + 2) (length cmap)) && ltb (class_of (u16_at cmap (4 + 8 * i)) (u16_at cmap (6 + 8 * i))) 4)
      go true e =
          let l = leb-true (12 + 8 * i) (length cmap) e in
          rw (right.whole32 cmap (8 + 8 * i) (omega arith), right.whole16 cmap (4 + 8 * i) (omega arith), right.whole16 cmap (6 + 8 * i) (omega arith))
      go false e = refl

  class_same : (cmap : List ℕ) (i : ℕ) → record_class_by r16 r32 cmap i ≡ record_class cmap i
  unfolding record_class_by class_by record_class qualifies lies_in pair_class
  class_same cmap i = rw (qualifies_same cmap i) (go (leb (12 + 8 * i) (length cmap)) refl)
    where
      go : (b : Bool) → leb (12 + 8 * i) (length cmap) ≡ b
          → cond ((b && leb (subtable_offset_of cmap i + 2) (length cmap)) && ltb (pair_class cmap i) 4) (class_of (r16 cmap (4 + 8 * i)) (r16 cmap (6 + 8 * i))) 4
          ≡ cond ((b && leb (subtable_offset_of cmap i + 2) (length cmap)) && ltb (pair_class cmap i) 4) (pair_class cmap i) 4
      go true e =
          let l = leb-true (12 + 8 * i) (length cmap) e in
          rw (right.whole16 cmap (4 + 8 * i) (omega arith), right.whole16 cmap (6 + 8 * i) (omega arith))
      go false e = refl

  index_in_same : (offset : ℕ) (cmap : List ℕ) → 4 ≤ length cmap → index_in_by r16 r32 offset cmap ≡ index_of offset cmap
  unfolding index_in_by index_of some_qualifies best_class best_record subtable_offset_of
  index_in_same offset cmap l =
      let same-qualifies : qualifies_by r16 r32 cmap ≡ qualifies cmap = λ k i. qualifies_same cmap i k in
      let same_class : record_class_by r16 r32 cmap ≡ record_class cmap = λ k i. class_same cmap i k in
      rw (right.whole16 cmap 2 (omega arith), same-qualifies, same_class) (go (some_qualifies cmap) refl)
    where
      index : ℕ → CharmapIndex
      index at = record { subtable_offset = offset + at; is_symbol = eqb (best_class cmap) 2; is_mac_roman = eqb (best_class cmap) 3 }

      go : (b : Bool) → some_qualifies cmap ≡ b
          → cond b (Some (index (r32 cmap (8 + 8 * best_record cmap)))) None ≡ cond b (Some (index (subtable_offset_of cmap (best_record cmap)))) None
      go true e = rw (right.whole32 cmap (8 + 8 * best_record cmap) (omega (arith, (inside cmap (best_record cmap) (best_qualified cmap e)).0)))
      go false e = refl

  index_same : (font : List ℕ) (start : ℕ) (t : Table) → find_table font start 0x636D6170 4 ≡ t → index_by r16 r32 font t ≡ index_in font t
  unfolding index_by index_in part_of
  index_same font start Absent e = refl
  index_same font start Damaged e = refl
  index_same font start (Found o n) e = index_in_same o (bytes_at font o n) (long font start 0x636D6170 4 o n e)

  pub charmap_same : (font : List ℕ) (start : ℕ) → index_by r16 r32 font (find_by r16 r32 font start 0x636D6170 4) ≡ charmap_index_of font start
  unfolding charmap_index_of
  charmap_same font start = rw (find_same font start 0x636D6170 4) (index_same font start (find_table font start 0x636D6170 4) refl)

  -- ---- the refusal and the face
  count_of_same : (font : List ℕ) (start : ℕ) → axis_count_by r16 r32 font (find_by r16 r32 font start 0x66766172 16) ≡ axis_count_of (fvar_of font start)
  unfolding fvar_of table_data
  count_of_same font start = rw (find_same font start 0x66766172 16) (axis_count_same font start (find_table font start 0x66766172 16) refl)

  axes_of_same : (font : List ℕ) (start : ℕ) → axes_by r16 r32 font (find_by r16 r32 font start 0x66766172 16) ≡ axes_of (fvar_of font start) (axis_count_of (fvar_of font start))
  unfolding fvar_of table_data
  axes_of_same font start = rw (find_same font start 0x66766172 16) (axes_same font start (find_table font start 0x66766172 16) refl)

  at_same : (font : List ℕ) (start : ℕ) → refusal_at_by r16 r32 font start ≡ refusal_at font start
  unfolding refusal_at_by refusal_at
  at_same font start = rw (fits_same font start, loses_same font start, charmap_same font start, count_of_same font start)

  face_same : (reading : ℕ) (font : List ℕ) (start : ℕ) → face_by r16 r32 reading font start ≡ face_of reading font start
  unfolding face_by face_of
  face_same reading font start = rw (tables_same reading font start, axes_of_same font start, count_of_same font start, charmap_same font start)

  -- ---- the fonts of a file
  module _ (font : List ℕ) (header : header_fits font ≡ true) where
    fonts_same : count_by r16 r32 font ≡ font_count font
    unfolding count_by font_count is_collection header_fits
    fonts_same = let l = leb-true 12 (length font) header in rw (right.whole32 font 0 (omega arith), right.whole32 font 8 (omega arith))

    offset_same : (number : ℕ) → number < font_count font → start_by r16 r32 font number ≡ offset_of font number
    unfolding start_by offset_of offsets_fit is_collection header_fits
    offset_same number l =
        let long = leb-true 12 (length font) header in
        rw (right.whole32 font 0 (omega arith), fonts_same) (go (is_collection font) (offsets_fit font) refl)
      where
        go : (a b : Bool) → offsets_fit font ≡ b
            → cond a (cond b (r32 font (12 + 4 * number)) (length font)) 0 ≡ cond a (cond b (u32_at font (12 + 4 * number)) (length font)) 0
        go true true e = right.whole32 font (12 + 4 * number) (omega (arith, leb-true (12 + 4 * font_count font) (length font) e))
        go true false e = refl
        go false b e = refl

  -- which font is refused, and by which number
  pub font_same : (reading : ℕ) (font : List ℕ) (number : ℕ) → font_by r16 r32 reading font number ≡ from_font_ref reading font number
  unfolding font_by under_by from_font_ref checked_by refusal_under refusal_by font_refusal font_start header_fits
  font_same reading font number = go (leb 12 (length font)) refl
    where
      face : ℕ → FontInfo → Checked
      face refusal f =
          record {
            refusal = cond (is_reading reading) refusal 25;
            font = cond (eqb (cond (is_reading reading) refusal 25) 0) f empty_font;
          }

      -- beside a refusal it is no matter what the face is
      refused : (n : ℕ) (f g : FontInfo) → eqb n 0 ≡ false → face n f ≡ face n g
      refused n f g e = ap (λ (x : FontInfo). record { refusal = cond (is_reading reading) n 25; font = x }) (either (is_reading reading))
        where
          either : (b : Bool) → cond (eqb (cond b n 25) 0) f empty_font ≡ cond (eqb (cond b n 25) 0) g empty_font
          either true = rw e
          either false = refl

      below : (b : Bool) → ltb number (font_count font) ≡ b → leb 12 (length font) ≡ true
          → face (cond b (refusal_at_by r16 r32 font (start_by r16 r32 font number)) 30) (face_by r16 r32 reading font (start_by r16 r32 font number))
          ≡ face (cond b (refusal_at font (cond b (offset_of font number) (length font))) 30) (face_of reading font (cond b (offset_of font number) (length font)))
      below true e h =
          rw (offset_same font h number (ltb-true number (font_count font) e), at_same font (offset_of font number), face_same reading font (offset_of font number))
      below false e h = refused 30 _ _ refl

      go : (b : Bool) → leb 12 (length font) ≡ b
          → face (cond b (cond (ltb number (count_by r16 r32 font)) (refusal_at_by r16 r32 font (start_by r16 r32 font number)) 30) 21) (face_by r16 r32 reading font (start_by r16 r32 font number))
          ≡ face (cond b (cond (ltb number (font_count font)) (refusal_at font (font_start font number)) 30) 21) (face_of reading font (font_start font number))
      go true h = rw (fonts_same font h) (below (ltb number (font_count font)) refl h)
      go false h = refused 21 _ _ refl
