-- What is read is accepted: the face that a font file gives has only numbers that section 1 accepts, so that no call on a face by value refuses it for its own
-- numbers. A file is a list of bytes, each below 256. Assumes nothing.
use Prim.Native.Nat.{ℕ, zero, suc, ◌+◌, ◌*◌, ◌^◌, ◌≤◌, ◌<◌}
use mathlib.Core.Path.{◌≡◌, refl, ap, ◌∙◌}
use mathlib.Core.Bool.{Bool, true, false, cond}
use mathlib.Core.List.{List, [], ◌∷◌}
use native.Mathlib.Omega.{arith}
use native.Mathlib.Nat.{lt_of_le_of_lt}
use borrow.Author.Tests.{le-leb}
use lib.Dec.{T, leb, lit<}
use lib.Pow.{shl_lt}
use lib.ListN.{length, get_or, take, drop}
use lib.Seq.{get_or-drop}
use lib.Ieee.{Float, binary32, round, of_int, le}
use lib.Ieee.Scale.{grid, overflow, finite}
use Rattle.font.specs.declared.attributes.FontStyle.{FontStyle}
use Rattle.font.specs.declared.attributes.Angle.TheVariants.{Unstated, Degrees}
use Rattle.font.specs.declared.attributes.FontStyle.TheVariants.{Normal, Italic, Oblique}
use Rattle.font.specs.declared.font.FontInfo.{FontInfo}
use Rattle.font.specs.declared.tables.Table.{Table}
use Rattle.font.specs.declared.tables.Table.TheVariants.{Absent, Damaged, Found}
use Rattle.font.specs.First.{every}
use Rattle.font.specs.Single.{single, fixed_to_single, accepted_ratio}
use Rattle.font.specs.Attributes.{attributes_of, default_attributes, accepted_angle, accepted_style, accepted_attributes}
use Rattle.font.specs.Slant.{slant_under}
use Rattle.font.specs.Tables.{u16_at, u32_at, find_table, part_of, table_data}
use Rattle.font.specs.Collection.{font_start}
use Rattle.font.specs.StatedAttributes.{present, bit, thousandths, class_widths, width_of_class, post_angle, os2_style, from_os2_post, head_style, head_weight, from_head, from_tables}
use Rattle.font.specs.Font.{fvar_of, axis_count_of, axis_at, axes_of, empty_font, face_of, from_font_ref}
use Rattle.font.specs.Overrides.{axis_of, accepted_axis, accepted_face, refusal_of}
use Rattle.font.proofs.Units.{value_finite, grid_le, round_value}
use Rattle.font.proofs.Nearest.{fixed_nearest}
use Rattle.font.proofs.FaceOf.{few_stated, taken_under, each_face, axis_there}
use Rattle.font.proofs.Opposites.{slant_finite}

known : (b : Bool) → T b → b ≡ true
known true t = refl
known false t = absurd t

-- ---- bytes
abbrev pub Bytes : List ℕ → Type 0
Bytes s = (i : ℕ) → get_or s i 0 < 256

below16 : (s : List ℕ) → Bytes s → (at : ℕ) → u16_at s at < 65536
unfolding u16_at
below16 s h at = go (leb (at + 2) (length s))
  where
    go : (b : Bool) → cond b (get_or s at 0 * 256 + get_or s (at + 1) 0) 0 < 65536
    go true = omega (arith, h at, h (at + 1))
    go false = omega arith

below32 : (s : List ℕ) → Bytes s → (at : ℕ) → u32_at s at < 2 ^ 32
unfolding u32_at
below32 s h at = go (leb (at + 4) (length s))
  where
    go : (b : Bool) → cond b (u16_at s at * 65536 + u16_at s (at + 2)) 0 < 2 ^ 32
    go true = omega (arith, below16 s h at, below16 s h (at + 2))
    go false = omega arith

-- a part of a file has bytes of the file
take_bytes : (n : ℕ) (s : List ℕ) → Bytes s → Bytes (take n s)
take_bytes zero s h i = lit< tt
take_bytes (suc n) [] h i = lit< tt
take_bytes (suc n) (x ∷ s) h zero = h 0
take_bytes (suc n) (x ∷ s) h (suc i) = take_bytes n s (λ k. h (suc k)) i

drop_bytes : (n : ℕ) (s : List ℕ) → Bytes s → Bytes (drop n s)
drop_bytes n s h i = rw (get_or-drop n s i 0) (h (n + i))

part_bytes : (font : List ℕ) → Bytes font → (t : Table) → Bytes (part_of font t)
unfolding part_of
part_bytes font h Absent i = lit< tt
part_bytes font h Damaged i = lit< tt
part_bytes font h (Found offset len) i = take_bytes len (drop offset font) (drop_bytes offset font h) i

table_bytes : (font : List ℕ) (start tag least : ℕ) → Bytes font → Bytes (table_data font start tag least)
unfolding table_data
table_bytes font start tag least h i = part_bytes font h (find_table font start tag least) i

-- ---- numbers
fixed_finite : (n : ℕ) → n < 2 ^ 32 → finite (fixed_to_single n) ≡ true
fixed_finite n h = known (finite (fixed_to_single n)) (fixed_nearest n h).number

single_finite : (n : ℕ) → n < 65536 → finite (single n) ≡ true
unfolding single of_int
single_finite n h = known (finite (round binary32 false n 1)) (value_finite (round binary32 false n 1) false (grid binary32 n 1) (2 ^ 149) (round_value binary32 false n 1 fine))
  where
    fine : grid binary32 n 1 < overflow binary32
    fine = lt_of_le_of_lt (grid_le binary32 n 1 141 (lit< tt) (shl_lt 16 149 h)) (lit< tt)

-- ---- attributes
width_accepted : (class : ℕ) → accepted_ratio (width_of_class class) ≡ true
unfolding accepted_ratio width_of_class thousandths class_widths single of_int round le
width_accepted zero = refl
width_accepted (suc zero) = refl
width_accepted (suc (suc zero)) = refl
width_accepted (suc (suc (suc zero))) = refl
width_accepted (suc (suc (suc (suc zero)))) = refl
width_accepted (suc (suc (suc (suc (suc zero))))) = refl
width_accepted (suc (suc (suc (suc (suc (suc zero)))))) = refl
width_accepted (suc (suc (suc (suc (suc (suc (suc zero))))))) = refl
width_accepted (suc (suc (suc (suc (suc (suc (suc (suc zero)))))))) = refl
width_accepted (suc (suc (suc (suc (suc (suc (suc (suc (suc n))))))))) = refl

one_accepted : accepted_ratio (single 1) ≡ true
unfolding accepted_ratio single of_int round le
one_accepted = refl

-- three numbers that are accepted
made : (ratio : Float) (style : FontStyle) (weight : Float) → accepted_ratio ratio ≡ true → accepted_style style ≡ true → finite weight ≡ true
    → accepted_attributes (attributes_of ratio style weight) ≡ true
unfolding accepted_attributes
made ratio style weight r s w = rw (r, s, w)

style_accepted : (reading : ℕ) (os2 post : List ℕ) → Bytes post → accepted_style (os2_style reading os2 post) ≡ true
unfolding os2_style post_angle accepted_style accepted_angle
style_accepted reading os2 post h = go (bit 0 (u16_at os2 62)) (bit 9 (u16_at os2 62)) (present post)
  where
    go : (a b c : Bool) → accepted_style (cond a Italic (cond b (Oblique (cond c (Degrees (slant_under reading (fixed_to_single (u32_at post 4)))) Unstated)) Normal)) ≡ true
    go true b c = refl
    go false true true = slant_finite reading (fixed_to_single (u32_at post 4)) ∙ fixed_finite (u32_at post 4) (below32 post h 4)
    go false true false = refl
    go false false c = refl

os2_accepted : (reading : ℕ) (os2 post : List ℕ) → Bytes os2 → Bytes post → accepted_attributes (from_os2_post reading os2 post) ≡ true
unfolding from_os2_post
os2_accepted reading os2 post h k =
    made (width_of_class (u16_at os2 6)) (os2_style reading os2 post) (single (u16_at os2 4))
    (width_accepted (u16_at os2 6)) (style_accepted reading os2 post k) (single_finite (u16_at os2 4) (below16 os2 h 4))

upright : (a : Bool) → accepted_style (cond a Italic Normal) ≡ true
unfolding accepted_style
upright true = refl
upright false = refl

head_accepted : (head : List ℕ) → accepted_attributes (from_head head) ≡ true
unfolding from_head head_style head_weight
head_accepted head = go (bit 1 (u16_at head 44)) (bit 0 (u16_at head 44))
  where
    weight : (b : Bool) → finite (cond b (single 700) (single 400)) ≡ true
    weight true = single_finite 700 (lit< tt)
    weight false = single_finite 400 (lit< tt)

    go : (a b : Bool) → accepted_attributes (attributes_of (single 1) (cond a Italic Normal) (cond b (single 700) (single 400))) ≡ true
    go a b = made (single 1) (cond a Italic Normal) (cond b (single 700) (single 400)) one_accepted (upright a) (weight b)

default_accepted : accepted_attributes default_attributes ≡ true
unfolding default_attributes
default_accepted = made (single 1) Normal (single 400) one_accepted (upright false) (single_finite 400 (lit< tt))

attributes_accepted : (reading : ℕ) (font : List ℕ) (start : ℕ) → Bytes font → accepted_attributes (from_tables reading font start) ≡ true
unfolding from_tables
attributes_accepted reading font start h = go (present (table_data font start 0x4F532F32 78)) (present (table_data font start 0x68656164 54))
  where
    os2 : List ℕ
    os2 = table_data font start 0x4F532F32 78

    post : List ℕ
    post = table_data font start 0x706F7374 32

    head : List ℕ
    head = table_data font start 0x68656164 54

    go : (a b : Bool) → accepted_attributes (cond a (from_os2_post reading os2 post) (cond b (from_head head) default_attributes)) ≡ true
    go true b = os2_accepted reading os2 post (table_bytes font start 0x4F532F32 78 h) (table_bytes font start 0x706F7374 32 h)
    go false true = head_accepted head
    go false false = default_accepted

-- ---- axes
every_all : (p : ℕ → Bool) (n : ℕ) → ((i : ℕ) → i < n → p i ≡ true) → every p n ≡ true
unfolding every
every_all p zero h = refl
every_all p (suc n) h = rw (every_all p n (λ i l. h i (omega arith)), h n (omega arith))

axis_accepted : (fvar : List ℕ) → Bytes fvar → (i : ℕ) → accepted_axis (axis_at fvar i) ≡ true
unfolding accepted_axis axis_at
axis_accepted fvar h i =
    let at = u16_at fvar 4 + 20 * i in
    rw (fixed_finite (u32_at fvar (at + 4)) (below32 fvar h (at + 4)), fixed_finite (u32_at fvar (at + 8)) (below32 fvar h (at + 8)), fixed_finite (u32_at fvar (at + 12)) (below32 fvar h (at + 12)))

axes_accepted : (fvar : List ℕ) (n : ℕ) → Bytes fvar → n ≤ 16 → every (λ i. accepted_axis (axis_of (axes_of fvar n) i)) n ≡ true
axes_accepted fvar n h k = every_all (λ i. accepted_axis (axis_of (axes_of fvar n) i)) n (λ i l. ap accepted_axis (axis_there fvar n i l k) ∙ axis_accepted fvar h i)

-- ---- the face
empty_accepted : accepted_face empty_font ≡ true
unfolding accepted_face empty_font every
empty_accepted = rw default_accepted

-- at most 16 axes, and every number accepted
abbrev Fine : FontInfo → Type 0
Fine f = (f.axis_count ≤ 16) × (accepted_face f ≡ true)

empty_fine : Fine empty_font
unfolding empty_font
empty_fine = (omega arith, empty_accepted)

face_fine : (reading : ℕ) (font : List ℕ) (start : ℕ) → Bytes font → axis_count_of (fvar_of font start) ≤ 16 → Fine (face_of reading font start)
unfolding accepted_face fvar_of face_of
face_fine reading font start h l =
    let fvar = table_data font start 0x66766172 16 in
    (l, rw (attributes_accepted reading font start h, axes_accepted fvar (axis_count_of fvar) (table_bytes font start 0x66766172 16 h) l))

read_fine : (reading : ℕ) (font : List ℕ) (number : ℕ) → Bytes font → Fine (from_font_ref reading font number).font
read_fine reading font number h =
    each_face reading font number Fine empty_fine
    (λ z. face_fine reading font (font_start font number) h (few_stated font number (taken_under reading font number z).1))

-- the face that a font gives has only accepted numbers
pub read_accepted : (reading : ℕ) (font : List ℕ) (number : ℕ) → Bytes font → accepted_face (from_font_ref reading font number).font ≡ true
read_accepted reading font number h = (read_fine reading font number h).1

-- so that a call on it refuses only for what is given beside it
pub read_not_refused : (reading : ℕ) (font : List ℕ) (number : ℕ) → Bytes font → (given : Bool)
    → refusal_of (from_font_ref reading font number).font given ≡ cond given 0 26
unfolding refusal_of
read_not_refused reading font number h given =
    rw (le-leb (from_font_ref reading font number).font.axis_count 16 (read_fine reading font number h).0, read_accepted reading font number h)
