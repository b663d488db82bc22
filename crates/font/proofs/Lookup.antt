-- Laws of table lookup: a found table lies in the file and has the bytes that were asked for, and its part of the file is handed out.
use Prim.Native.Nat.{ℕ, ◌+◌, ◌*◌, ◌-◌, ◌/◌, ◌≤◌, ◌<◌}
use mathlib.Core.Path.{◌≡◌, refl, sym, ◌∙◌}
use mathlib.Core.Bool.{Bool, true, false, ◌&&◌, cond}
use mathlib.Core.List.{List, []}
use mathlib.Core.Logic.{◌⊎◌, inl, inr}
use native.Mathlib.Omega.{arith}
use native.Mathlib.Nat.{add-sub_cancel_left}
use lib.ListN.{length, take, drop, length-take, length-drop}
use lib.Dec.{leb, ltb}
use borrow.Author.Tests.{leb-true, leb-false, le-leb, lt-leb}
use Rattle.font.specs.declared.tables.Table.{Table}
use Rattle.font.specs.declared.tables.Table.TheVariants.{Absent, Damaged, Found}
use Rattle.font.specs.Tables.{table_of_record, find_table, part_of, table_data, hand_out, handed_table, bytes_of, is_damaged, record_length, record_offset, first_record, directory_fits, starts_as_font, u16_at, u32_at, record_count}

-- a directory fits where its header and as many records as it counts lie in the file, and it starts as a font
pub fits : (font : List ℕ) (start n : ℕ) → start + 12 ≤ length font → starts_as_font (u32_at font start) ≡ true → n ≡ u16_at font (start + 4)
    → n ≤ (length font - 12 - start) / 16 → directory_fits font start ≡ true
unfolding directory_fits record_count
fits font start n h s e l =
    rw (le-leb (start + 12) (length font) h, s, le-leb (start + 12 + 16 * u16_at font (start + 4)) (length font) (omega arith))

-- and else not
pub past_file : (font : List ℕ) (start : ℕ) → length font < start + 12 → false ≡ directory_fits font start
unfolding directory_fits
past_file font start h = rw (lt-leb (start + 12) (length font) h)

pub other_start : (font : List ℕ) (start : ℕ) → starts_as_font (u32_at font start) ≡ false → directory_fits font start ≡ false
unfolding directory_fits
other_start font start s = rw s (go (leb (start + 12) (length font)))
  where
    go : (b : Bool) → (b && false) ≡ false
    go true = refl
    go false = refl

pub records_past : (font : List ℕ) (start n : ℕ) → start + 12 ≤ length font → n ≡ u16_at font (start + 4) → (length font - 12 - start) / 16 < n
    → directory_fits font start ≡ false
unfolding directory_fits record_count
records_past font start n h e l =
    rw (lt-leb (start + 12 + 16 * u16_at font (start + 4)) (length font) (omega arith)) (go (leb (start + 12) (length font)) (starts_as_font (u32_at font start)))
  where
    go : (a b : Bool) → (a && (b && false)) ≡ false
    go true true = refl
    go true false = refl
    go false b = refl

-- all three together: of a file that starts as a font, whether as many records as it counts lie in the rest of the file
pub fits_as : (font : List ℕ) (start n : ℕ) → start + 12 ≤ length font → starts_as_font (u32_at font start) ≡ true → n ≡ u16_at font (start + 4)
    → leb n ((length font - 12 - start) / 16) ≡ directory_fits font start
fits_as font start n h s e = go (leb n ((length font - 12 - start) / 16)) refl
  where
    go : (b : Bool) → leb n ((length font - 12 - start) / 16) ≡ b → leb n ((length font - 12 - start) / 16) ≡ directory_fits font start
    go true t = t ∙ sym (fits font start n h s e (leb-true n ((length font - 12 - start) / 16) t))
    go false t = t ∙ sym (records_past font start n h e (leb-false n ((length font - 12 - start) / 16) t))

-- the records of a directory that fits lie in the file
pub records_inside : (font : List ℕ) (start : ℕ) → directory_fits font start ≡ true → start + 12 + 16 * record_count font start ≤ length font
unfolding directory_fits
records_inside font start =
    go (leb (start + 12) (length font)) (starts_as_font (u32_at font start)) (leb (start + 12 + 16 * record_count font start) (length font)) refl
  where
    go : (a b c : Bool) → leb (start + 12 + 16 * record_count font start) (length font) ≡ c → a && (b && c) ≡ true → start + 12 + 16 * record_count font start ≤ length font
    go true true c e h = leb-true (start + 12 + 16 * record_count font start) (length font) (e ∙ h)
    go true false c e h = absurd (let z : ◌≡◌ {A = ℕ} 0 1 = cc in omega arith)
    go false b c e h = absurd (let z : ◌≡◌ {A = ℕ} 0 1 = cc in omega arith)

-- what a found table's offset and length are known to be
pub record Within (font : List ℕ) (least offset len : ℕ) : Type 0 where
  pub inside : offset + len ≤ length font
  pub enough : least ≤ len

of_record : (font : List ℕ) (start : ℕ) (least i o n : ℕ) → table_of_record font start least i ≡ Found o n → Within font least o n
unfolding table_of_record
of_record font start least i o n = go (leb least (record_length font start i)) (leb (record_offset font start i + record_length font start i) (length font)) refl refl
  where
    go : (a b : Bool) → leb least (record_length font start i) ≡ a
        → leb (record_offset font start i + record_length font start i) (length font) ≡ b
        → cond (a && b) (Found (record_offset font start i) (record_length font start i)) Damaged ≡ Found o n
        → Within font least o n
    go true true p q e =
        let at : record_offset font start i ≡ o = cc in
        let long : record_length font start i ≡ n = cc in
        record { inside = omega (arith, leb-true (record_offset font start i + record_length font start i) (length font) q); enough = omega (arith, leb-true least (record_length font start i) p) }
    go true false p q e = absurd (let z : ◌≡◌ {A = ℕ} 0 1 = cc in omega arith)
    go false b p q e = absurd (let z : ◌≡◌ {A = ℕ} 0 1 = cc in omega arith)

pub within : (font : List ℕ) (start : ℕ) (tag least o n : ℕ) → find_table font start tag least ≡ Found o n → Within font least o n
unfolding find_table
within font start tag least o n = go (directory_fits font start && ltb (first_record font start tag) (record_count font start))
  where
    go : (a : Bool) → cond a (table_of_record font start least (first_record font start tag)) Absent ≡ Found o n → Within font least o n
    go true e = of_record font start least (first_record font start tag) o n e
    go false e = absurd (let z : ◌≡◌ {A = ℕ} 0 1 = cc in omega arith)

-- its part of the file has the bytes that were asked for
pub long : (font : List ℕ) (start : ℕ) (tag least o n : ℕ) → find_table font start tag least ≡ Found o n → least ≤ length (take n (drop o font))
long font start tag least o n e = let w = within font start tag least o n e in simp (length-take, length-drop) (omega (arith, w.inside, w.enough))

pub found_part : (font : List ℕ) (start : ℕ) (tag least o n : ℕ) → find_table font start tag least ≡ Found o n → take (o + n - o) (drop o font) ≡ table_data font start tag least
unfolding part_of table_data
found_part font start tag least o n e = rw (add-sub_cancel_left, e)

-- of one that is not found no byte is handed out
pub none_found : (font : List ℕ) (start tag least : ℕ) (t : Table) → t ≡ find_table font start tag least → (t ≡ Damaged) ⊎ (t ≡ Absent)
    → [] ≡ table_data font start tag least
unfolding part_of table_data
none_found font start tag least t e (inl h) = rw (sym e ∙ h)
none_found font start tag least t e (inr h) = rw (sym e ∙ h)

pub damage : (font : List ℕ) (start tag least : ℕ) → find_table font start tag least ≡ Damaged → true ≡ is_damaged (handed_table font start tag least)
unfolding handed_table hand_out is_damaged
damage font start tag least e = rw e

pub no_damage : (font : List ℕ) (start tag least : ℕ) → (find_table font start tag least ≡ Damaged → ⊥) → false ≡ is_damaged (handed_table font start tag least)
unfolding handed_table hand_out is_damaged
no_damage font start tag least h = go (find_table font start tag least) refl
  where
    go : (t : Table) → find_table font start tag least ≡ t → false ≡ is_damaged (hand_out font t)
    go Absent e = refl
    go Damaged e = absurd (h e)
    go (Found o n) e = refl

-- the bytes of what is handed out
pub handed_bytes : (font : List ℕ) (start tag least : ℕ) → bytes_of (handed_table font start tag least) ≡ table_data font start tag least
unfolding handed_table hand_out bytes_of table_data part_of
handed_bytes font start tag least = go (find_table font start tag least)
  where
    go : (t : Table) → bytes_of (hand_out font t) ≡ part_of font t
    go Absent = refl
    go Damaged = refl
    go (Found o n) = refl

-- a table is handed out as no bytes or as at least the bytes that were asked for
pub none_or_long : (font : List ℕ) (start : ℕ) (tag least : ℕ) → (table_data font start tag least ≡ []) ⊎ (least ≤ length (table_data font start tag least))
unfolding table_data part_of
none_or_long font start tag least = go (find_table font start tag least) refl
  where
    go : (t : Table) → find_table font start tag least ≡ t → (part_of font t ≡ []) ⊎ (least ≤ length (part_of font t))
    go Absent e = inl refl
    go Damaged e = inl refl
    go (Found o n) e = inr (long font start tag least o n e)
