use Rattle.std.specs.Prelude.{None, Some}
-- A font of a collection is read as a lone font with the same tables (`specs/LookedAt.antt`). Assumes nothing.
use Prim.Native.Nat.{ℕ, ◌<◌}
use mathlib.Core.Path.{◌≡◌, refl, sym, ap, ◌∙◌}
use mathlib.Core.Bool.{Bool, true, false, cond}
use mathlib.Core.List.{List, [], ◌∷◌, ◌++◌}
use native.Mathlib.Omega.{arith}
use lib.ListN.{length}
use lib.Dec.{ltb}
use borrow.Author.Tests.{le-leb, ltb-true}
use Rattle.font.specs.declared.charmap.CharmapIndex.{CharmapIndex}
use Rattle.font.specs.declared.font.FontInfo.{FontInfo}
use Rattle.font.specs.First.{first, some, least_below, first_least}
use Rattle.font.specs.Tables.{u16_at, u32_at, starts_as_font, record_count, record_tag, record_offset, record_length, directory_fits, first_record, table_of_record, find_table, part_of, table_data, hand_out, handed_table, is_damaged}
use Rattle.font.specs.Collection.{is_collection, header_fits, font_count, offsets_fit, offset_of, font_start}
use Rattle.font.specs.Charmap.{is_pair, class_of, subtable_offset_of, lies_in, pair_class, qualifies, record_class, some_qualifies, best_class, best_record, index_of, index_in, charmap_index_of}
use Rattle.font.specs.StatedAttributes.{present, needed_damaged, loses_needed}
use Rattle.font.specs.Font.{fvar_of, axis_count_of, has_index, index_or, refusal_at, font_refusal, refusal_under, face_of, from_font_ref}
use Rattle.font.specs.LookedAt.{Five, os2, post, head, fvar, cmap, SameIndex, missing, of_record, SameReading, SameFont, MovedWithCmap, ReadAlike}
use Rattle.font.proofs.Lookup.{past_file, records_inside, handed_bytes}
use Rattle.font.proofs.FaceOf.{refused_at_lem, taken, taken_under, accepted_face_lem}
use Rattle.font.proofs.LookedAt.{face_same}
use Rattle.font.proofs.CutTables.{all_equal, read_equal}

-- ---- where a font's directory fits, the file has its header and a font of that number
module _ (f : List ℕ) (m : ℕ) (fits : directory_fits f (font_start f m) ≡ true) where
  header : header_fits f ≡ true
  unfolding header_fits
  header = le-leb 12 (length f) (omega (arith, records_inside f (font_start f m) fits))

  below : m < font_count f
  unfolding font_start
  below = go (ltb m (font_count f)) refl fits
    where
      go : (b : Bool) → ltb m (font_count f) ≡ b → directory_fits f (cond b (offset_of f m) (length f)) ≡ true → m < font_count f
      go true e h = ltb-true m (font_count f) e
      go false e h =
          let past = past_file f (length f) (omega arith) in
          absurd (let z : ◌≡◌ {A = ℕ} 0 1 = cc in omega arith)

  refused_as : font_refusal f m ≡ refusal_at f (font_start f m)
  refused_as = refused_at_lem f m header below

-- ---- where the index lies

-- a font that is not refused has an index
has_one : (f : List ℕ) (start : ℕ) → refusal_at f start ≡ 0 → charmap_index_of f start ≡ None → ⊥
unfolding refusal_at has_index
has_one f start z e = go (directory_fits f start) (loses_needed f start) (rw e at z)
  where
    go : (b l : Bool) → ◌≡◌ {A = ℕ} (cond b (cond l 31 22) 21) 0 → ⊥
    go true true h = omega arith
    go true false h = omega arith
    go false l h = omega arith

index_of_face : (reading : ℕ) (f : List ℕ) (m : ℕ) → refusal_under reading f m ≡ 0 → (c : CharmapIndex) → charmap_index_of f (font_start f m) ≡ Some c
    → (from_font_ref reading f m).font.charmap_index ≡ c
unfolding face_of index_or
index_of_face reading f m z c e = ap (λ (x : FontInfo). x.charmap_index) (accepted_face_lem reading f m z) ∙ rw e

module _ (f : List ℕ) (m : ℕ) (g : List ℕ) (n : ℕ) (same : SameFont f m g n) where
  cmap_same : table_data f (font_start f m) 0x636D6170 4 ≡ table_data g (font_start g n) 0x636D6170 4
  cmap_same =
      sym (handed_bytes f (font_start f m) 0x636D6170 4) ∙ same.tables.cmap ∙ handed_bytes g (font_start g n) 0x636D6170 4

  alike : SameReading f (font_start f m) g (font_start g n)
  alike = read_equal f (font_start f m) g (font_start g n) (same.first_fits ∙ sym same.second_fits) same.tables

  refusal : font_refusal f m ≡ font_refusal g n
  refusal = refused_as f m same.first_fits ∙ alike.refusal ∙ sym (refused_as g n same.second_fits)

  refusal_under_lem : (reading : ℕ) → refusal_under reading f m ≡ refusal_under reading g n
  unfolding refusal_under
  refusal_under_lem reading = rw refusal

  offset : (reading : ℕ) → refusal_under reading f m ≡ 0
      → MovedWithCmap f m g n (from_font_ref reading f m).font.charmap_index.subtable_offset (from_font_ref reading g n).font.charmap_index.subtable_offset
  offset reading z = go alike.index
    where
      at : CharmapIndex → ℕ
      at c = c.subtable_offset

      go : SameIndex f (font_start f m) g (font_start g n)
          → MovedWithCmap f m g n (from_font_ref reading f m).font.charmap_index.subtable_offset (from_font_ref reading g n).font.charmap_index.subtable_offset
      go (missing e h) = absurd (has_one f (font_start f m) (taken f m (taken_under reading f m z).1).at_start e)
      go (of_record i symbol roman x y) =
          record {
            first = x.offset;
            first_length = x.len;
            second = y.offset;
            second_length = y.len;
            first_lies = x.lies;
            second_lies = y.lies;
            moved = omega (
              arith,
              ap at (index_of_face reading f m z _ x.index),
              ap at (index_of_face reading g n (sym (refusal_under_lem reading) ∙ z) _ y.index),
              ap (λ (t : List ℕ). subtable_offset_of t i) cmap_same,
            );
          }

  pub same_font : ReadAlike f m g n
  same_font = record { alike = alike; refusal = refusal; face = face_same f m g n refusal alike; offset = offset }

-- ---- an example: a font that has `cmap` alone, by itself and as the font 1 of a collection, where the directory stands after the table

-- one record, (3,1), whose subtable begins at 12
unfoldable pub subtables : List ℕ
subtables = 0 ∷ 0 ∷ 0 ∷ 1 ∷ 0 ∷ 3 ∷ 0 ∷ 1 ∷ 0 ∷ 0 ∷ 0 ∷ 12 ∷ 0 ∷ 4 ∷ []

-- a directory of one record: `cmap`, of 14 bytes, which lies at `offset`
unfoldable pub directory : ℕ → List ℕ
directory offset =
    0 ∷ 1 ∷ 0 ∷ 0 ∷ 0 ∷ 1 ∷ 0 ∷ 0 ∷ 0 ∷ 0 ∷ 0 ∷ 0
    ∷ 0x63 ∷ 0x6D ∷ 0x61 ∷ 0x70 ∷ 0 ∷ 0 ∷ 0 ∷ 0 ∷ 0 ∷ 0 ∷ 0 ∷ offset ∷ 0 ∷ 0 ∷ 0 ∷ 14 ∷ []

unfoldable pub lone : List ℕ
lone = directory 28 ++ subtables

unfoldable pub collection : List ℕ
collection =
    0x74 ∷ 0x74 ∷ 0x63 ∷ 0x66 ∷ 0 ∷ 1 ∷ 0 ∷ 0 ∷ 0 ∷ 0 ∷ 0 ∷ 2 ∷ 0 ∷ 0 ∷ 0 ∷ 0 ∷ 0 ∷ 0 ∷ 0 ∷ 34 ∷ subtables ++ directory 20

-- they are the same font, which is not refused; the subtable lies at 20 + 12 in the collection, and at 28 + 12 in the lone font's file
pub record Example : Type 0 where
  pub same : SameFont collection 1 lone 0
  pub taken : font_refusal collection 1 ≡ 0
  pub in_collection : charmap_index_of collection (font_start collection 1) ≡ Some (record { subtable_offset = 32; is_symbol = false; is_mac_roman = false })
  pub in_lone : charmap_index_of lone (font_start lone 0) ≡ Some (record { subtable_offset = 40; is_symbol = false; is_mac_roman = false })

pub example : Example
unfolding collection lone subtables directory is_collection header_fits font_count offsets_fit offset_of font_start font_refusal refusal_at directory_fits starts_as_font record_count record_tag record_offset record_length first_record first table_of_record find_table part_of table_data hand_out handed_table is_damaged needed_damaged loses_needed u16_at u32_at has_index charmap_index_of index_in index_of some_qualifies some qualifies lies_in pair_class class_of is_pair subtable_offset_of best_record best_class record_class least_below first_least fvar_of axis_count_of present
example = record { same = record { first_fits = refl; second_fits = refl; tables = all_equal _ _ (λ tag least t. each t) }; taken = refl; in_collection = refl; in_lone = refl }
  where
    each : {tag least : ℕ} → Five tag least → handed_table collection (font_start collection 1) tag least ≡ handed_table lone (font_start lone 0) tag least
    each os2 = refl
    each post = refl
    each head = refl
    each fvar = refl
    each cmap = refl
