-- Refusal 22 is given exactly for "no qualifying `cmap` record". Assumes nothing.
use Prim.Native.Nat.{ℕ}
use mathlib.Core.Path.{◌≡◌, refl, sym, ◌∙◌}
use mathlib.Core.Bool.{Bool, true, false, cond}
use mathlib.Core.List.{List}
use native.Mathlib.Omega.{arith}
use lib.Dec.{leb}
use Rattle.font.specs.declared.tables.Table.{Table}
use Rattle.font.specs.declared.tables.Table.TheVariants.{Absent, Damaged, Found}
use Rattle.font.specs.Tables.{u16_at, directory_fits, find_table, part_of}
use Rattle.font.specs.Charmap.{qualifies, some_qualifies, index_in, charmap_index_of, NoneQualifies}
use Rattle.font.specs.StatedAttributes.{loses_needed}
use Rattle.font.specs.Font.{fvar_of, axis_count_of, has_index, refusal_at}
use Rattle.font.proofs.First.{some_fails, all_fail}
use Rattle.font.proofs.Records.{table_has}

-- a font has no index exactly where no record qualifies
missing : (font : List ℕ) (start : ℕ) → has_index (charmap_index_of font start) ≡ false → NoneQualifies font start
unfolding charmap_index_of index_in some_qualifies
missing font start h offset len e =
    let cmap = part_of font (Found offset len) in
    all_fail (qualifies cmap) (u16_at cmap 2) (sym (table_has offset cmap) ∙ rw e at h)

none_missing : (font : List ℕ) (start : ℕ) → NoneQualifies font start → has_index (charmap_index_of font start) ≡ false
unfolding charmap_index_of index_in has_index some_qualifies
none_missing font start h = go (find_table font start 0x636D6170 4) refl
  where
    go : (t : Table) → find_table font start 0x636D6170 4 ≡ t → has_index (index_in font t) ≡ false
    go Absent e = refl
    go Damaged e = refl
    go (Found offset len) e =
        let cmap = part_of font (Found offset len) in
        table_has offset cmap ∙ some_fails (qualifies cmap) (u16_at cmap 2) (h offset len e)

-- 22 comes after 21 and 31 and before 23
pub refused_22 : (font : List ℕ) (start : ℕ) → refusal_at font start ≡ 22
    → (directory_fits font start ≡ true) × (loses_needed font start ≡ false) × NoneQualifies font start
unfolding refusal_at
refused_22 font start z =
    go (directory_fits font start) (loses_needed font start) (has_index (charmap_index_of font start)) (leb (axis_count_of (fvar_of font start)) 16) refl refl refl z
  where
    go : (a l b c : Bool) → directory_fits font start ≡ a → loses_needed font start ≡ l → has_index (charmap_index_of font start) ≡ b
        → ◌≡◌ {A = ℕ} (cond a (cond l 31 (cond b (cond c 0 23) 22)) 21) 22
        → (directory_fits font start ≡ true) × (loses_needed font start ≡ false) × NoneQualifies font start
    go true false false c d k e z = (d, k, missing font start e)
    go true true b c d k e z = absurd (omega arith)
    go true false true true d k e z = absurd (omega arith)
    go true false true false d k e z = absurd (omega arith)
    go false l b c d k e z = absurd (omega arith)

pub gives_22 : (font : List ℕ) (start : ℕ) → directory_fits font start ≡ true → loses_needed font start ≡ false → NoneQualifies font start
    → refusal_at font start ≡ 22
unfolding refusal_at
gives_22 font start d k h = rw (d, k, none_missing font start h)
