use Rattle.std.specs.Prelude.{Option, None, Some}
-- The charmap index of a font lies in the file: the subtable of the best record has two bytes there.
use Prim.Native.Nat.{ℕ, ◌+◌, ◌≤◌}
use mathlib.Core.Path.{◌≡◌, refl, ap}
use mathlib.Core.Bool.{Bool, true, false, cond}
use mathlib.Core.List.{List}
use native.Mathlib.Omega.{arith}
use lib.ListN.{length, take, drop, length-take, length-drop}
use lib.Dec.{eqb}
use Rattle.font.specs.declared.tables.Table.{Table}
use Rattle.font.specs.declared.tables.Table.TheVariants.{Absent, Damaged, Found}
use Rattle.font.specs.declared.charmap.CharmapIndex.{CharmapIndex}
use Rattle.font.specs.Tables.{find_table, part_of}
use Rattle.font.specs.Collection.{font_start}
use Rattle.font.specs.Charmap.{subtable_offset_of, some_qualifies, best_class, best_record, index_of, index_in, charmap_index_of}
use Rattle.font.specs.Font.{empty_font, face_of, index_or, no_index, from_font_ref}
use Rattle.font.proofs.Records.{inside, best_qualified}
use Rattle.font.proofs.Lookup.{within}
use Rattle.font.proofs.FaceOf.{each_face}

in_table : (offset : ℕ) (cmap : List ℕ) (i : CharmapIndex) → index_of offset cmap ≡ Some i → i.subtable_offset + 2 ≤ offset + length cmap
unfolding index_of
in_table offset cmap i = go (some_qualifies cmap) refl
  where
    index : CharmapIndex
    index = record { subtable_offset = offset + subtable_offset_of cmap (best_record cmap); is_symbol = eqb (best_class cmap) 2; is_mac_roman = eqb (best_class cmap) 3 }

    go : (b : Bool) → some_qualifies cmap ≡ b → cond b (Some index) None ≡ Some i → i.subtable_offset + 2 ≤ offset + length cmap
    go true e h =
        let here : index ≡ i = cc in
        omega (arith, ap (λ (x : CharmapIndex). x.subtable_offset) here, (inside cmap (best_record cmap) (best_qualified cmap e)).1)
    go false e h = absurd (let z : ◌≡◌ {A = ℕ} 0 1 = cc in omega arith)

-- the index of a font is that of a subtable in it
index_inside : (font : List ℕ) (start : ℕ) (i : CharmapIndex) → charmap_index_of font start ≡ Some i → i.subtable_offset + 2 ≤ length font
unfolding charmap_index_of index_in part_of
index_inside font start i = go (find_table font start 0x636D6170 4) refl
  where
    go : (t : Table) → find_table font start 0x636D6170 4 ≡ t → index_in font t ≡ Some i → i.subtable_offset + 2 ≤ length font
    go Absent e h = absurd (let z : ◌≡◌ {A = ℕ} 0 1 = cc in omega arith)
    go Damaged e h = absurd (let z : ◌≡◌ {A = ℕ} 0 1 = cc in omega arith)
    go (Found o n) e h =
        let w = within font start 0x636D6170 4 o n e in
        let long : length (take n (drop o font)) ≡ n = simp (length-take, length-drop) (omega (arith, w.inside)) in
        omega (arith, in_table o (take n (drop o font)) i h, long, w.inside)

-- whether a font is refused or not, the offset of its charmap index is at most the file's length
pub offset_inside : (reading : ℕ) (font : List ℕ) (number : ℕ) → (from_font_ref reading font number).font.charmap_index.subtable_offset ≤ length font
unfolding empty_font face_of index_or no_index
offset_inside reading font number =
    each_face reading font number (λ f. f.charmap_index.subtable_offset ≤ length font) (omega arith) (λ z. go (charmap_index_of font (font_start font number)) refl)
  where
    go : (m : Option CharmapIndex) → charmap_index_of font (font_start font number) ≡ m → (index_or no_index m).subtable_offset ≤ length font
    go None e = omega arith
    go (Some i) e = omega (arith, index_inside font (font_start font number) i e)
