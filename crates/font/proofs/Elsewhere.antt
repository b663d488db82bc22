-- Bytes of a font file that lie neither in its directory nor in one of the five tables do not count: with others there, and with more at the end, the
-- file gives the same face and refusal. Assumes nothing.
use Prim.Native.Nat.{ℕ, ◌+◌, ◌*◌, ◌-◌, ◌≤◌, ◌<◌}
use mathlib.Core.Path.{◌≡◌, refl, sym, ap, ◌∙◌}
use mathlib.Core.Bool.{Bool, true, false, cond}
use mathlib.Core.List.{List, ◌++◌}
use mathlib.Core.Logic.{◌⊎◌, inl, inr}
use native.Mathlib.Omega.{arith}
use lib.ListN.{length, take, drop, set, length-append, length-set, length-drop}
use lib.Seq.{take-append-le, drop-append-le, take-set-le, drop-set-lt, drop-set-add}
use lib.Dec.{leb, ltb, eqb}
use borrow.Author.Tests.{le-leb, ltb-true}
use Rattle.font.specs.declared.tables.Table.{Table}
use Rattle.font.specs.declared.tables.Table.TheVariants.{Absent, Damaged, Found}
use Rattle.font.specs.Tables.{record_count, record_tag, record_offset, record_length, directory_fits, first_record, table_of_record, find_table, part_of, found_table, hand_out, handed_table}
use Rattle.font.specs.Charmap.{index_of, index_in, charmap_index_of}
use Rattle.font.specs.Font.{face_of, checked_by, checked_at}
use Rattle.font.specs.LookedAt.{Agree, Five, cmap}
use Rattle.font.proofs.First.{first_same}
use Rattle.font.proofs.Lookup.{records_inside, within}
use Rattle.font.proofs.LookedAt.{field16, field32}
use Rattle.font.proofs.CutTables.{all_equal, read_equal}

-- where the table of the first record with a tag ends
abbrev pub end_of : List ℕ → ℕ → ℕ → ℕ
end_of font start tag = record_offset font start (first_record font start tag) + record_length font start (first_record font start tag)

module _ (f g : List ℕ) (start : ℕ) (fits : directory_fits f start ≡ true) (directory : Agree (start + 12 + 16 * record_count f start) f g) where
  -- ---- the directory
  count_same : record_count f start ≡ record_count g start
  unfolding record_count
  count_same = field16 directory (start + 4) (omega arith)

  fits_same : directory_fits f start ≡ directory_fits g start
  unfolding directory_fits
  fits_same =
      let count = count_same in
      let in_f = directory.in_first in
      let in_g = directory.in_second in
      rw (le-leb (start + 12) (length f) (omega arith), le-leb (start + 12) (length g) (omega arith), field32 directory start (omega arith), le-leb (start + 12 + 16 * record_count f start) (length f) in_f, le-leb (start + 12 + 16 * record_count g start) (length g) (omega arith))

  record_same : (tag : ℕ) → first_record f start tag ≡ first_record g start tag
  unfolding first_record record_tag
  record_same tag =
      rw (← count_same)
      (first_same (λ i. eqb (record_tag f start i) tag) (λ i. eqb (record_tag g start i) tag) (record_count f start)
      (λ i l. ap (λ (t : ℕ). eqb t tag) (field32 directory (start + 12 + 16 * i) (omega arith))))

  table_same : (least i : ℕ) → i < record_count f start
      → leb (record_offset f start i + record_length f start i) (length f) ≡ leb (record_offset f start i + record_length f start i) (length g)
      → table_of_record f start least i ≡ table_of_record g start least i
  unfolding table_of_record record_offset record_length
  table_same least i l e =
      rw (e, field32 directory (start + 24 + 16 * i) (omega arith), field32 directory (start + 20 + 16 * i) (omega arith))

  -- a table is found at the same place, where it reaches past both files or past none
  find_same : (tag least : ℕ) → (first_record f start tag < record_count f start → leb (end_of f start tag) (length f) ≡ leb (end_of f start tag) (length g))
      → find_table f start tag least ≡ find_table g start tag least
  unfolding find_table
  find_same tag least e =
      rw (← fits_same, fits, ← count_same, ← record_same tag) (go (ltb (first_record f start tag) (record_count f start)) refl)
    where
      go : (b : Bool) → ltb (first_record f start tag) (record_count f start) ≡ b
          → cond b (table_of_record f start least (first_record f start tag)) Absent ≡ cond b (table_of_record g start least (first_record f start tag)) Absent
      go true h = let l = ltb-true (first_record f start tag) (record_count f start) h in table_same least (first_record f start tag) l (e l)
      go false h = refl

  -- ---- the face: each of the five reaches past both files or past none, and its bytes are the same where it lies
  module _ (ends : (tag least : ℕ) → Five tag least → first_record f start tag < record_count f start → leb (end_of f start tag) (length f) ≡ leb (end_of f start tag) (length g))
      (bytes : (tag least o n : ℕ) → Five tag least → find_table f start tag least ≡ Found o n → take n (drop o f) ≡ take n (drop o g))
    where
      handed_same : (tag least : ℕ) → Five tag least → handed_table f start tag least ≡ handed_table g start tag least
      unfolding handed_table hand_out part_of
      handed_same tag least t = rw (← find_same tag least (ends tag least t)) (go (find_table f start tag least) refl)
        where
          go : (u : Table) → find_table f start tag least ≡ u → hand_out f u ≡ hand_out g u
          go Absent e = refl
          go Damaged e = refl
          go (Found o n) e = ap found_table (bytes tag least o n t e)

      index_same : charmap_index_of f start ≡ charmap_index_of g start
      unfolding charmap_index_of index_in part_of
      index_same = rw (← find_same 0x636D6170 4 (ends 0x636D6170 4 cmap)) (go (find_table f start 0x636D6170 4) refl)
        where
          go : (u : Table) → find_table f start 0x636D6170 4 ≡ u → index_in f u ≡ index_in g u
          go Absent e = refl
          go Damaged e = refl
          go (Found o n) e = ap (index_of o) (bytes 0x636D6170 4 o n cmap e)

      pub font_kept : (reading : ℕ) → checked_at reading f start ≡ checked_at reading g start
      unfolding checked_at checked_by face_of
      font_kept reading =
          let r = read_equal f start g start fits_same (all_equal (handed_table f start) (handed_table g start) handed_same) in
          rw (r.refusal, r.from_tables_lem reading, r.axes, r.axis_count_lem, index_same)

-- another byte at k, past the directory and outside the five tables, in the font whose directory begins at `start`
pub byte_changed : (f : List ℕ) (start k b : ℕ) → directory_fits f start ≡ true → start + 12 + 16 * record_count f start ≤ k
    → ((tag least o n : ℕ) → Five tag least → find_table f start tag least ≡ Found o n → (k < o) ⊎ (o + n ≤ k))
    → (reading : ℕ) → checked_at reading f start ≡ checked_at reading (set f k b) start
byte_changed f start k b fits past outside =
    font_kept f (set f k b) start fits
    (record { in_first = records_inside f start fits; in_second = rw length-set (records_inside f start fits); same = sym (take-set-le (start + 12 + 16 * record_count f start) f k b past) })
    (λ tag least t l. rw length-set)
    (λ tag least o n t e. part o n (outside tag least o n t e))
  where
    part : (o n : ℕ) → (k < o) ⊎ (o + n ≤ k) → take n (drop o f) ≡ take n (drop o (set f k b))
    part o n (inl l) = rw (drop-set-lt o f k b l)
    part o n (inr l) =
        let at : k ≡ o + (k - o) = omega arith in
        sym (ap (λ (i : ℕ). take n (drop o (set f i b))) at ∙ ap (take n) (drop-set-add o f (k - o) b) ∙ take-set-le n (drop o f) (k - o) b (omega arith))

-- more bytes at the end, where none of the five reaches past the file
pub appended : (f more : List ℕ) (start : ℕ) → directory_fits f start ≡ true
    → ((tag least : ℕ) → Five tag least → first_record f start tag < record_count f start → end_of f start tag ≤ length f)
    → (reading : ℕ) → checked_at reading f start ≡ checked_at reading (f ++ more) start
appended f more start fits inside =
    font_kept f (f ++ more) start fits
    (record { in_first = records_inside f start fits; in_second = longer (records_inside f start fits); same = sym (take-append-le (start + 12 + 16 * record_count f start) f more (records_inside f start fits)) })
    (λ tag least t l. le-leb (end_of f start tag) (length f) (inside tag least t l) ∙ sym (le-leb (end_of f start tag) (length (f ++ more)) (longer (inside tag least t l))))
    (λ tag least o n t e. part o n (within f start tag least o n e).inside)
  where
    longer : {n : ℕ} → n ≤ length f → n ≤ length (f ++ more)
    longer l = rw length-append (omega arith)

    part : (o n : ℕ) → o + n ≤ length f → take n (drop o f) ≡ take n (drop o (f ++ more))
    part o n l =
        rw (drop-append-le o f more (omega arith))
        (sym (take-append-le n (drop o f) more (rw length-drop (omega arith))))
