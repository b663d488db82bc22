-- The two readings of a font (`specs/TwoReadings.antt`). Assumes nothing.
use Prim.Native.Nat.{ℕ}
use mathlib.Core.Path.{◌≡◌, refl}
use mathlib.Core.Bool.{Bool, true, false, cond}
use mathlib.Core.List.{List}
use lib.Dec.{eqb}
use lib.Ieee.{neg, eq, of_int, round}
use Rattle.font.specs.declared.attributes.Angle.TheVariants.{Unstated, Degrees}
use Rattle.font.specs.declared.attributes.FontStyle.TheVariants.{Normal, Italic, Oblique}
use Rattle.font.specs.Single.{single, fixed_to_single}
use Rattle.font.specs.Attributes.{attributes_of, default_attributes}
use Rattle.font.specs.Slant.{is_reading, opposite, slant_under, opposite_angle, opposite_style, opposite_attributes, opposite_face}
use Rattle.font.specs.Tables.{u16_at, u32_at, table_data}
use Rattle.font.specs.Collection.{font_start}
use Rattle.font.specs.StatedAttributes.{present, bit, width_of_class, post_angle, os2_style, from_os2_post, head_style, head_weight, from_head, from_tables, read_attributes}
use Rattle.font.specs.Font.{empty_font, font_refusal, refusal_under, face_of, checked_by, checked_at, from_font_ref, stated_at}
use Rattle.font.specs.TwoReadings.{Edges, Old, OldStarts, TwoReadings}

pub edges : Edges
unfolding slant_under opposite fixed_to_single single of_int round neg eq
edges = record { least = refl; turned = refl; zero = refl; minus_zero = refl; kept = refl }

-- ---- reading 1 is reading 0 with the stated angle negated

angle_same : (post : List ℕ) → post_angle 1 post ≡ opposite_angle (post_angle 0 post)
unfolding post_angle slant_under opposite_angle
angle_same post = go (present post)
  where
    go : (b : Bool) → cond b (Degrees (opposite (fixed_to_single (u32_at post 4)))) Unstated ≡ opposite_angle (cond b (Degrees (fixed_to_single (u32_at post 4))) Unstated)
    go true = refl
    go false = refl

os2_same : (os2 post : List ℕ) → from_os2_post 1 os2 post ≡ opposite_attributes (from_os2_post 0 os2 post)
unfolding from_os2_post os2_style opposite_attributes opposite_style
os2_same os2 post = rw (angle_same post) (go (bit 0 (u16_at os2 62)) (bit 9 (u16_at os2 62)))
  where
    go : (a b : Bool)
        → attributes_of (width_of_class (u16_at os2 6)) (cond a Italic (cond b (Oblique (opposite_angle (post_angle 0 post))) Normal)) (single (u16_at os2 4))
        ≡ opposite_attributes (attributes_of (width_of_class (u16_at os2 6)) (cond a Italic (cond b (Oblique (post_angle 0 post)) Normal)) (single (u16_at os2 4)))
    go true b = refl
    go false true = refl
    go false false = refl

head_same : (head : List ℕ) → from_head head ≡ opposite_attributes (from_head head)
unfolding from_head head_style opposite_attributes opposite_style
head_same head = go (bit 1 (u16_at head 44))
  where
    go : (b : Bool)
        → attributes_of (single 1) (cond b Italic Normal) (head_weight (u16_at head 44))
        ≡ opposite_attributes (attributes_of (single 1) (cond b Italic Normal) (head_weight (u16_at head 44)))
    go true = refl
    go false = refl

default_same : default_attributes ≡ opposite_attributes default_attributes
unfolding default_attributes opposite_attributes opposite_style
default_same = refl

pub tables_same : (file : List ℕ) (start : ℕ) → from_tables 1 file start ≡ opposite_attributes (from_tables 0 file start)
unfolding from_tables
tables_same file start = go (present os2) (present head)
  where
    os2 : List ℕ
    os2 = table_data file start 0x4F532F32 78

    post : List ℕ
    post = table_data file start 0x706F7374 32

    head : List ℕ
    head = table_data file start 0x68656164 54

    go : (a b : Bool)
        → cond a (from_os2_post 1 os2 post) (cond b (from_head head) default_attributes)
        ≡ opposite_attributes (cond a (from_os2_post 0 os2 post) (cond b (from_head head) default_attributes))
    go true b = os2_same os2 post
    go false true = head_same head
    go false false = default_same

face_same : (file : List ℕ) (number : ℕ) → (from_font_ref 1 file number).font ≡ opposite_face (from_font_ref 0 file number).font
unfolding from_font_ref refusal_under is_reading checked_by face_of empty_font opposite_face
face_same file number = go (eqb (font_refusal file number) 0)
  where
    start : ℕ
    start = font_start file number

    go : (b : Bool) → cond b (face_of 1 file start) empty_font ≡ opposite_face (cond b (face_of 0 file start) empty_font)
    go true = rw (tables_same file start)
    go false = rw (← default_same)

-- ---- reading 0, by computing

old_kept : (file : List ℕ) (number : ℕ) → Old file number
unfolding post_angle os2_style from_os2_post slant_under from_tables read_attributes is_reading face_of from_font_ref refusal_under checked_by stated_at
old_kept file number =
    record {
      attributes = λ os2 post. refl;
      tables = λ start. refl;
      stated = λ start. refl;
      face = λ start. refl;
      font = refl;
      looked_at = λ start tag. refl;
    }

pub old_starts : (file : List ℕ) → OldStarts file
unfolding checked_by checked_at
old_starts file = record { at_start = λ start. refl }

-- ---- the statement

pub two_readings : (file : List ℕ) (number : ℕ) → TwoReadings file number
unfolding read_attributes is_reading from_font_ref refusal_under checked_by
two_readings file number =
    record {
      old = old_kept file number;
      attributes = λ k. rw (k, tables_same file (font_start file number));
      face = face_same file number;
      refusal = λ reading k. rw k;
      lost = λ reading k l. rw (k, l);
      unknown = λ reading k. rw k;
      none_stated = λ reading k. rw k;
    }
