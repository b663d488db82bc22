use Rattle.std.specs.Prelude.{Option, None, Some}
-- What is read of a font file depends on five tables alone, and in these on what section 2 names: OS/2, `post`, `head`, the axes of `fvar`, and the
-- records of `cmap` that qualify. Two files that are alike there (`specs/LookedAt.antt`) are read alike. Assumes nothing.
use Prim.Native.Nat.{ℕ, ◌+◌, ◌*◌, ◌≤◌, ◌<◌}
use mathlib.Core.Path.{◌≡◌, refl, sym, ap, ◌∙◌}
use mathlib.Core.Bool.{Bool, true, false, ◌&&◌, cond}
use mathlib.Core.List.{List}
use native.Mathlib.Omega.{arith}
use lib.ListN.{length, get_or}
use lib.Seq.{get_or-take}
use lib.Dec.{leb, ltb, eqb}
use borrow.Author.Tests.{le-leb, lt-ltb, ltb-true}
use Rattle.font.specs.declared.attributes.Attributes.{Attributes}
use Rattle.font.specs.declared.charmap.CharmapIndex.{CharmapIndex}
use Rattle.font.specs.declared.font.AxisInfo.{AxisInfo}
use Rattle.font.specs.declared.tables.Table.{Table}
use Rattle.font.specs.declared.tables.Table.TheVariants.{Absent, Damaged, Found}
use Rattle.font.specs.First.{first, some}
use Rattle.font.specs.Attributes.{default_attributes}
use Rattle.font.specs.Tables.{u16_at, u32_at, directory_fits, find_table, part_of, table_data, Handed, handed_table, bytes_of, is_damaged}
use Rattle.font.specs.Collection.{font_start}
use Rattle.font.specs.Charmap.{subtable_offset_of, pair_class, qualifies, record_class, some_qualifies, best_class, best_record, index_of, index_in, charmap_index_of}
use Rattle.font.specs.StatedAttributes.{present, post_angle, os2_style, from_os2_post, from_head, from_tables, needs_post, needed_damaged, loses_needed, read_attributes}
use Rattle.font.specs.Font.{fvar_of, axis_count_of, axis_at, no_axis, axes_of, has_index, index_or, no_index, refusal_at, font_refusal, refusal_under, face_of, empty_font, checked_by, from_font_ref, states_axis}
use Rattle.font.specs.LookedAt.{Agree, Alike, absent, damaged, found, AxesAlike, no_axes, with_axes_lem, Keeps, RecordsAlike, SameTables, OfRecord, SameIndex, missing, of_record, SameReading, subtable_at}
use Rattle.font.proofs.First.{first_same}
use Rattle.font.proofs.Lookup.{handed_bytes}
use Rattle.font.proofs.Least.{Kept, least_same, first_least_same}
use Rattle.font.proofs.Tabulated.{same}
use Rattle.font.proofs.Records.{has_class, best_qualifies, best_low, best_stated, best_qualified, font_has}

-- ---- fields that lie in bytes that agree
module _ {n : ℕ} {s t : List ℕ} (a : Agree n s t) where
  byte_same : (i : ℕ) → i < n → get_or s i 0 ≡ get_or t i 0
  byte_same i l = sym (get_or-take n s i 0 l) ∙ ap (λ (x : List ℕ). get_or x i 0) a.same ∙ get_or-take n t i 0 l

  pub field16 : (at : ℕ) → at + 2 ≤ n → u16_at s at ≡ u16_at t at
  unfolding u16_at
  field16 at l =
      rw (le-leb (at + 2) (length s) (omega (arith, a.in_first)), le-leb (at + 2) (length t) (omega (arith, a.in_second)), byte_same at (omega arith), byte_same (at + 1) (omega arith))

  pub field32 : (at : ℕ) → at + 4 ≤ n → u32_at s at ≡ u32_at t at
  unfolding u32_at
  field32 at l =
      rw (le-leb (at + 4) (length s) (omega (arith, a.in_first)), le-leb (at + 4) (length t) (omega (arith, a.in_second)), field16 at (omega arith), field16 (at + 2) (omega arith))

  pub both_present : 0 < n → (present s ≡ true) × (present t ≡ true)
  unfolding present
  both_present l = (lt-ltb 0 (length s) (omega (arith, a.in_first)), lt-ltb 0 (length t) (omega (arith, a.in_second)))

-- ---- attributes

-- what OS/2, `post` and `head` state
unfoldable pub stated_in : ℕ → List ℕ → List ℕ → List ℕ → Attributes
stated_in reading os2 post head = cond (present os2) (from_os2_post reading os2 post) (cond (present head) (from_head head) default_attributes)

angle_same : (reading : ℕ) {s t : Handed} → Alike 32 s t → post_angle reading (bytes_of s) ≡ post_angle reading (bytes_of t)
unfolding post_angle bytes_of
angle_same reading absent = refl
angle_same reading damaged = refl
angle_same reading (found a) = let p = both_present a (omega arith) in rw (p.0, p.1, field32 a 4 (omega arith))

os2_same : (reading : ℕ) {os2 os2' : List ℕ} {post post' : Handed} → Agree 78 os2 os2' → Alike 32 post post'
    → from_os2_post reading os2 (bytes_of post) ≡ from_os2_post reading os2' (bytes_of post')
unfolding from_os2_post os2_style
os2_same reading a p = rw (field16 a 4 (omega arith), field16 a 6 (omega arith), field16 a 62 (omega arith), angle_same reading p)

head_same : {s t : List ℕ} → Agree 54 s t → from_head s ≡ from_head t
unfolding from_head
head_same a = rw (field16 a 44 (omega arith))

without_os2 : {head head' : Handed} → Alike 54 head head'
    → cond (present (bytes_of head)) (from_head (bytes_of head)) default_attributes
    ≡ cond (present (bytes_of head')) (from_head (bytes_of head')) default_attributes
unfolding bytes_of
without_os2 absent = refl
without_os2 damaged = refl
without_os2 (found a) = let p = both_present a (omega arith) in rw (p.0, p.1, head_same a)

pub stated_same : (reading : ℕ) {os2 os2' post post' head head' : Handed} → Alike 78 os2 os2' → Alike 32 post post' → Alike 54 head head'
    → stated_in reading (bytes_of os2) (bytes_of post) (bytes_of head) ≡ stated_in reading (bytes_of os2') (bytes_of post') (bytes_of head')
unfolding stated_in present bytes_of
stated_same reading (found a) p h = let q = both_present a (omega arith) in rw (q.0, q.1, os2_same reading a p)
stated_same reading damaged p h = without_os2 h
stated_same reading absent p h = without_os2 h

lost_same : {n : ℕ} {s t : Handed} → Alike n s t → is_damaged s ≡ is_damaged t
unfolding is_damaged
lost_same absent = refl
lost_same damaged = refl
lost_same (found a) = refl

needed_same : {os2 os2' post post' head head' : Handed} → Alike 78 os2 os2' → Alike 32 post post' → Alike 54 head head'
    → needed_damaged os2 head post ≡ needed_damaged os2' head' post'
unfolding needed_damaged needs_post
needed_same (found a) p h = rw (field16 a 62 (omega arith), lost_same p)
needed_same damaged p h = refl
needed_same absent p h = lost_same h

-- ---- axes

count_at_most : (fvar : List ℕ) → axis_count_of fvar ≤ u16_at fvar 8
unfolding axis_count_of
count_at_most fvar = go (present fvar && (eqb (u16_at fvar 10) 20 && leb (u16_at fvar 4 + 20 * u16_at fvar 8) (length fvar)))
  where
    go : (b : Bool) → cond b (u16_at fvar 8) 0 ≤ u16_at fvar 8
    go true = omega arith
    go false = omega arith

-- so a table that states at most 16 has no refusal
pub few_stated_fvar : {fvar s : List ℕ} {n : ℕ} → fvar ≡ s → n ≡ u16_at fvar 8 → n ≤ 16 → ◌≡◌ {A = ℕ} 0 (cond (leb (axis_count_of s) 16) 0 23)
few_stated_fvar {fvar} e f l = rw (← e, le-leb (axis_count_of fvar) 16 (omega (arith, count_at_most fvar)))

module _ {n : ℕ} {s t : List ℕ} (header : 16 ≤ n) (records : u16_at s 4 + 20 * u16_at s 8 ≤ n) (a : Agree n s t) where
  found_count : axis_count_of s ≡ axis_count_of t
  unfolding axis_count_of
  found_count =
      let p = both_present a (omega arith) in
      let start = field16 a 4 (omega arith) in
      let count = field16 a 8 (omega arith) in
      rw (p.0, p.1, field16 a 10 (omega arith), le-leb (u16_at s 4 + 20 * u16_at s 8) (length s) (omega (arith, a.in_first)), le-leb (u16_at t 4 + 20 * u16_at t 8) (length t) (omega (arith, a.in_second)), count)

  found_axis : (i : ℕ) → i < axis_count_of s → axis_at s i ≡ axis_at t i
  unfolding axis_at
  found_axis i l =
      let at = u16_at t 4 + 20 * i in
      let start = field16 a 4 (omega arith) in
      let few = count_at_most s in
      rw (start, field32 a at (omega arith), field32 a (at + 4) (omega arith), field32 a (at + 8) (omega arith), field32 a (at + 12) (omega arith))

pub count_same : {s t : List ℕ} → AxesAlike s t → axis_count_of s ≡ axis_count_of t
count_same (no_axes e h) = cc
count_same (with_axes_lem n l r a) = found_count l r a

pub axis_same : {s t : List ℕ} → AxesAlike s t → (i : ℕ) → i < axis_count_of s → axis_at s i ≡ axis_at t i
axis_same (no_axes e h) i l = absurd (omega arith)
axis_same (with_axes_lem n h r a) i l = found_axis h r a i l

pub axes_same : {s t : List ℕ} → AxesAlike s t → axes_of s (axis_count_of s) ≡ axes_of t (axis_count_of t)
unfolding axes_of
axes_same {s} {t} h =
    rw (← count_same h)
    (same (λ i. cond (ltb i (axis_count_of s)) (axis_at s i) no_axis) (λ i. cond (ltb i (axis_count_of s)) (axis_at t i) no_axis) 16 no_axis
    (λ i l. at i (ltb i (axis_count_of s)) refl))
  where
    at : (i : ℕ) (b : Bool) → ltb i (axis_count_of s) ≡ b → cond b (axis_at s i) no_axis ≡ cond b (axis_at t i) no_axis
    at i true e = axis_same h i (ltb-true i (axis_count_of s) e)
    at i false e = refl

pub axis_stated_same : {s t : List ℕ} (tag : ℕ) → AxesAlike s t
    → ltb (first (λ i. eqb (axis_at s i).tag tag) (axis_count_of s)) (axis_count_of s) ≡ ltb (first (λ i. eqb (axis_at t i).tag tag) (axis_count_of t)) (axis_count_of t)
axis_stated_same {s} {t} tag h =
    rw (← count_same h)
    (ap (λ (k : ℕ). ltb k (axis_count_of s))
    (first_same (λ i. eqb (axis_at s i).tag tag) (λ i. eqb (axis_at t i).tag tag) (axis_count_of s)
    (λ i l. ap (λ (x : AxisInfo). eqb x.tag tag) (axis_same h i l))))

-- ---- `cmap`

class_of : (cmap : List ℕ) (i : ℕ) → qualifies cmap i ≡ true → record_class cmap i ≡ pair_class cmap i
unfolding record_class
class_of cmap i e = rw e

keeps_class : (c d : List ℕ) → Keeps c d → Kept 4 (record_class c) (u16_at c 2) (record_class d) (u16_at d 2)
keeps_class c d h i l low =
    let q : qualifies c i ≡ true = sym (has_class c i) ∙ lt-ltb (record_class c i) 4 low in
    let w = h i l q in
    (w.0, class_of d i w.1 ∙ w.2 ∙ sym (class_of c i q))

module _ {c d : List ℕ} (h : RecordsAlike c d) where
  pub best_class_same : best_class c ≡ best_class d
  unfolding best_class
  best_class_same = least_same 4 (record_class c) (u16_at c 2) (record_class d) (u16_at d 2) (keeps_class c d h.forth) (keeps_class d c h.back)

  pub some_qualifies_same : some_qualifies c ≡ some_qualifies d
  some_qualifies_same = sym (best_qualifies c) ∙ ap (λ (x : ℕ). ltb x 4) best_class_same ∙ best_qualifies d

  pub best_record_same : some_qualifies c ≡ true → best_record c ≡ best_record d
  unfolding best_class best_record
  best_record_same q =
      first_least_same 4 (record_class c) (u16_at c 2) (record_class d) (u16_at d 2) (keeps_class c d h.forth) (keeps_class d c h.back)
      (best_low c q)

no_index_lem : (font : List ℕ) (start : ℕ) → some_qualifies (table_data font start 0x636D6170 4) ≡ false → charmap_index_of font start ≡ None
unfolding has_index
no_index_lem font start e = go (charmap_index_of font start) (font_has font start ∙ e)
  where
    go : (m : Option CharmapIndex) → has_index m ≡ false → m ≡ None
    go None h = refl
    go (Some i) h = absurd (let z : ◌≡◌ {A = ℕ} 0 1 = cc in omega arith)

index_of_best : (font : List ℕ) (start : ℕ) → some_qualifies (table_data font start 0x636D6170 4) ≡ true
    → OfRecord font start (best_record (table_data font start 0x636D6170 4)) (eqb (best_class (table_data font start 0x636D6170 4)) 2) (eqb (best_class (table_data font start 0x636D6170 4)) 3)
unfolding charmap_index_of index_in index_of table_data part_of some_qualifies some u16_at
index_of_best font start = go (find_table font start 0x636D6170 4) refl
  where
    go : (t : Table) → find_table font start 0x636D6170 4 ≡ t → some_qualifies (part_of font t) ≡ true
        → OfRecord font start (best_record (table_data font start 0x636D6170 4)) (eqb (best_class (table_data font start 0x636D6170 4)) 2) (eqb (best_class (table_data font start 0x636D6170 4)) 3)
    go Absent e q = absurd (let z : ◌≡◌ {A = ℕ} 0 1 = cc in omega arith)
    go Damaged e q = absurd (let z : ◌≡◌ {A = ℕ} 0 1 = cc in omega arith)
    go (Found offset len) e q = record { offset = offset; len = len; lies = e; stated = rw e (best_stated (part_of font (Found offset len)) q); qualified = rw e (best_qualified (part_of font (Found offset len)) q); index = rw (e, q) }

pub index_same : (f : List ℕ) (a : ℕ) (g : List ℕ) (b : ℕ) → RecordsAlike (table_data f a 0x636D6170 4) (table_data g b 0x636D6170 4) → SameIndex f a g b
index_same f a g b h = go (some_qualifies (table_data f a 0x636D6170 4)) refl
  where
    go : (z : Bool) → some_qualifies (table_data f a 0x636D6170 4) ≡ z → SameIndex f a g b
    go false e = missing (no_index_lem f a e) (no_index_lem g b (sym (some_qualifies_same h) ∙ e))
    go true e =
        of_record _ _ _ (index_of_best f a e)
        (rw (best_record_same h e, best_class_same h) (index_of_best g b (sym (some_qualifies_same h) ∙ e)))

-- ---- the file

module _ (f : List ℕ) (a : ℕ) (g : List ℕ) (b : ℕ) (h : SameTables (handed_table f a) (handed_table g b)) where
  tables_same : (reading : ℕ) → from_tables reading f a ≡ from_tables reading g b
  unfolding from_tables stated_in
  tables_same reading =
      rw (← handed_bytes f a 0x4F532F32 78, ← handed_bytes f a 0x706F7374 32, ← handed_bytes f a 0x68656164 54, ← handed_bytes g b 0x4F532F32 78, ← handed_bytes g b 0x706F7374 32, ← handed_bytes g b 0x68656164 54)
      (stated_same reading h.os2 h.post h.head)

  loses_same : loses_needed f a ≡ loses_needed g b
  unfolding loses_needed
  loses_same = needed_same h.os2 h.post h.head

  axes_alike : AxesAlike (table_data f a 0x66766172 16) (table_data g b 0x66766172 16)
  axes_alike = rw (← handed_bytes f a 0x66766172 16, ← handed_bytes g b 0x66766172 16) h.fvar

  records_alike : RecordsAlike (table_data f a 0x636D6170 4) (table_data g b 0x636D6170 4)
  records_alike = rw (← handed_bytes f a 0x636D6170 4, ← handed_bytes g b 0x636D6170 4) h.cmap

  pub read_alike : directory_fits f a ≡ directory_fits g b → SameReading f a g b
  unfolding read_attributes fvar_of states_axis refusal_at
  read_alike fits =
      record {
        attributes = λ reading. rw (loses_same, tables_same reading);
        from_tables_lem = tables_same;
        axis_count_lem = count_same axes_alike;
        axes = axes_same axes_alike;
        states = λ tag. axis_stated_same tag axes_alike;
        refusal = rw (fits, loses_same, font_has f a, font_has g b, some_qualifies_same records_alike, count_same axes_alike);
        index = index_same f a g b records_alike;
      }

-- ---- where the subtable lies

-- c and d are the indices of the two fonts, whose `cmap` tables lie at o and p
module _ (f : List ℕ) (a : ℕ) (g : List ℕ) (b : ℕ) (same_index : SameIndex f a g b) (c d : CharmapIndex) (at_c : charmap_index_of f a ≡ Some c) (at-d : charmap_index_of g b ≡ Some d)
    (o n p m : ℕ) (lies-f : find_table f a 0x636D6170 4 ≡ Found o n) (lies-g : find_table g b 0x636D6170 4 ≡ Found p m)
  where
    -- it is that of one record in both
    one_record_lem : (i : ℕ) × (i < u16_at (table_data g b 0x636D6170 4) 2) × (qualifies (table_data g b 0x636D6170 4) i ≡ true)
        × (c.subtable_offset ≡ o + subtable_offset_of (table_data f a 0x636D6170 4) i)
        × (d.subtable_offset ≡ p + subtable_offset_of (table_data g b 0x636D6170 4) i)
    one_record_lem = go same_index
      where
        go : SameIndex f a g b → (i : ℕ) × (i < u16_at (table_data g b 0x636D6170 4) 2) × (qualifies (table_data g b 0x636D6170 4) i ≡ true)
            × (c.subtable_offset ≡ o + subtable_offset_of (table_data f a 0x636D6170 4) i)
            × (d.subtable_offset ≡ p + subtable_offset_of (table_data g b 0x636D6170 4) i)
        go (missing e h) = absurd (let z : ◌≡◌ {A = ℕ} 0 1 = cc in omega arith)
        go (of_record i symbol roman x y) = (i, y.stated, y.qualified, cc (x.index, x.lies), cc (y.index, y.lies))

    -- with the same bytes of `cmap` it is moved as the table is
    pub moved : table_data f a 0x636D6170 4 ≡ table_data g b 0x636D6170 4 → d.subtable_offset + o ≡ c.subtable_offset + p
    moved e =
        let w = one_record_lem in
        omega (arith, ap (λ (t : List ℕ). subtable_offset_of t w.0) e, w.3, w.4)

    -- where `back` takes the offset of each qualifying record of g to that of the same record of f, it takes g's index to f's
    pub mapped_back : (back : ℕ → ℕ)
        → ((i : ℕ) → i < u16_at (table_data g b 0x636D6170 4) 2 → qualifies (table_data g b 0x636D6170 4) i ≡ true
        → back (subtable_offset_of (table_data g b 0x636D6170 4) i) ≡ subtable_offset_of (table_data f a 0x636D6170 4) i)
        → (j : ℕ) → d.subtable_offset ≡ p + j → c.subtable_offset ≡ o + back j
    mapped_back back h j e =
        let w = one_record_lem in
        let same : j ≡ subtable_offset_of (table_data g b 0x636D6170 4) w.0 = omega (arith, w.4) in
        omega (arith, w.3, ap back same, h w.0 w.1 w.2)

-- ---- the face

-- but for where the subtable lies the faces are one
at_same : (f : List ℕ) (a : ℕ) (g : List ℕ) (b : ℕ) → SameReading f a g b → (r reading : ℕ)
    → (checked_by r reading f a).font ≡ subtable_at (checked_by r reading f a).font.charmap_index.subtable_offset (checked_by r reading g b).font
unfolding checked_by face_of subtable_at empty_font index_or no_index
at_same f a g b h r reading = go (eqb r 0)
  where
    at_index : SameIndex f a g b
        → index_or no_index (charmap_index_of f a)
        ≡ record {
          subtable_offset = (index_or no_index (charmap_index_of f a)).subtable_offset;
          is_symbol = (index_or no_index (charmap_index_of g b)).is_symbol;
          is_mac_roman = (index_or no_index (charmap_index_of g b)).is_mac_roman;
        }
    at_index (missing e i) = rw (e, i)
    at_index (of_record i symbol roman x y) = rw (x.index, y.index)

    go : (z : Bool)
        → cond z (face_of reading f a) empty_font
        ≡ subtable_at (cond z (face_of reading f a) empty_font).charmap_index.subtable_offset (cond z (face_of reading g b) empty_font)
    go true = rw (h.from_tables_lem reading, h.axes, h.axis_count_lem, at_index h.index)
    go false = refl

-- so are those of the fonts m of f and n of g, where the two are refused alike
pub face_same : (f : List ℕ) (m : ℕ) (g : List ℕ) (n : ℕ) → font_refusal f m ≡ font_refusal g n → SameReading f (font_start f m) g (font_start g n)
    → (reading : ℕ)
    → (from_font_ref reading f m).font ≡ subtable_at (from_font_ref reading f m).font.charmap_index.subtable_offset (from_font_ref reading g n).font
unfolding from_font_ref refusal_under
face_same f m g n e h reading = rw e (at_same f (font_start f m) g (font_start g n) h (refusal_under reading g n) reading)
