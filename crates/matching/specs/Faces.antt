-- Section 7: the faces to try, as one statement about the definitions that the public calls promise. Proved in proofs/Tried.antt.
use Rattle.std.specs.Prelude.{ℕ, ◌-◌, ◌≡◌, Bool, true, false, cond, List, [], ◌∷◌, ◌++◌, pos, negsuc, Float, length, replicate}
use Rattle.std.specs.Float.{binary32}
use Rattle.std.specs.Float.Ieee.{round, neg}
use Rattle.font.specs.Single.{single, fixed_to_single}
use Rattle.font.specs.Attributes.{attributes_of}
use Rattle.font.specs.declared.attributes.Angle.TheVariants.{Unstated, Degrees}
use Rattle.font.specs.declared.attributes.FontStyle.{FontStyle}
use Rattle.font.specs.declared.attributes.FontStyle.TheVariants.{Normal, Italic, Oblique}
use Rattle.font.specs.declared.attributes.Attributes.{Attributes}
use Rattle.font.specs.declared.font.AxisInfo.{AxisInfo}
use Rattle.font.specs.declared.font.FontInfo.{FontInfo}
use Rattle.matching.specs.Matching.{Choice}
use Rattle.matching.specs.Matching.{Place, Nothing}
use Rattle.matching.specs.Matching.{slnt, no_axis, match_font}
use Rattle.matching.specs.Synthesis.{unvaried, synthesis_of}

-- the single nearest to a fraction
unfoldable pub fraction : ℕ → ℕ → Float
fraction a b = round binary32 false a b

unfoldable pub minus_fraction : ℕ → ℕ → Float
minus_fraction a b = round binary32 true a b

-- a face with these axes, in its sixteen
unfoldable pub face_with : Attributes → List AxisInfo → FontInfo
face_with a axes =
    record {
      attributes = a;
      axes = axes ++ replicate (16 - length axes) no_axis;
      axis_count = length axes;
      charmap_index = record { subtable_offset = 0; is_symbol = false; is_mac_roman = false };
    }

-- "Normal, width 1, weight 400 unless said"
unfoldable pub weighing : ℕ → FontInfo
weighing w = face_with (attributes_of (single 1) Normal (single w)) []

unfoldable pub wide : Float → FontInfo
wide ratio = face_with (attributes_of ratio Normal (single 400)) []

unfoldable pub styled : FontStyle → FontInfo
styled s = face_with (attributes_of (single 1) s (single 400)) []

unfoldable pub slanting : FontStyle → FontInfo
slanting s =
    face_with (attributes_of (single 1) s (single 400))
    (record { tag = slnt; min = neg (single 20); default = single 0; max = single 20 } ∷ [])

unfoldable pub stated : Float → FontStyle
stated x = Oblique (Degrees x)

-- the answer for a family of two faces, in its sixty-four
unfoldable pub of_two : FontInfo → FontInfo → Attributes → Bool → Choice
of_two a b request on = match_font (a ∷ b ∷ replicate 62 (weighing 400)) 2 request on

unfoldable pub for_weight : ℕ → Attributes
for_weight w = attributes_of (single 1) Normal (single w)

unfoldable pub for_width : Float → Attributes
for_width ratio = attributes_of ratio Normal (single 400)

unfoldable pub for_style : FontStyle → Attributes
for_style s = attributes_of (single 1) s (single 400)

-- `unvaried` is the whole answer: no refusal, no setting, the emboldening and the skew. It is the same under both readings.
pub record FacesToTry : Type 0 where
  pub item1 : (on : Bool) → of_two (weighing 300) (weighing 600) (for_weight 450) on ≡ Place 0
  pub item2 : (on : Bool) → of_two (weighing 400) (weighing 500) (for_weight 450) on ≡ Place 1
  pub item3 : (on : Bool) → of_two (weighing 350) (weighing 350) (for_weight 400) on ≡ Place 1
  pub item4 : (on : Bool) → of_two (weighing 600) (weighing 600) (for_weight 550) on ≡ Place 0
  pub item5 : (on : Bool)
      → (of_two (wide (fraction 3 4)) (wide (fraction 5 4)) (for_width (single 1)) on ≡ Place 0)
      × (of_two (wide (fraction 3 4)) (wide (fraction 5 4)) (for_width (fraction 9 8)) on ≡ Place 1)
  pub item6 : (on : Bool)
      → (of_two (styled (Oblique Unstated)) (styled (stated (single 14))) (for_style Italic) on ≡ Place 0)
      × (of_two (styled (Oblique Unstated)) (styled (stated (single 14))) (for_style (stated (single 20))) on ≡ Place 1)
  pub item7 : (on : Bool)
      → (of_two (styled (stated (neg (single 10)))) (styled (stated (neg (single 20)))) (for_style (stated (neg (single 14)))) on ≡ Place 1)
      × (of_two (styled (stated (neg (single 10)))) (styled (stated (neg (single 20)))) (for_style (stated (minus_fraction 27 2))) on ≡ Place 0)
  pub item8 :
      (of_two (styled Normal) (slanting Normal) (for_style (stated (single 14))) true ≡ Nothing)
      × (of_two (slanting Normal) (styled Normal) (for_style (stated (single 14))) true ≡ Nothing)
      × (of_two (styled Normal) (slanting Normal) (for_style (stated (single 14))) false ≡ Place 0)
      × (of_two (slanting Normal) (styled Normal) (for_style (stated (single 14))) false ≡ Place 0)
  pub item9 : (on : Bool) → of_two (styled Normal) (styled (stated (single 0))) (for_style Italic) on ≡ Place 0
  pub item10 : (new : Bool)
      → (synthesis_of (cond new 1 0) (weighing 400) (for_weight 600) ≡ unvaried 0 false (pos 0))
      × (synthesis_of (cond new 1 0) (weighing 400) (for_weight 601) ≡ unvaried 0 true (pos 0))
  pub item11 : (new : Bool)
      → (synthesis_of (cond new 1 0) (styled Normal) (for_style (stated (fraction 9 10))) ≡ unvaried 0 false (pos 0))
      × (synthesis_of (cond new 1 0) (styled Normal) (for_style (stated (minus_fraction 149 10))) ≡ unvaried 0 false (negsuc 13))
      × (synthesis_of (cond new 1 0) (styled Normal) (for_style (stated (single 200))) ≡ unvaried 0 false (pos 127))
      × (synthesis_of (cond new 1 0) (styled Normal) (for_style (stated (neg (single 200)))) ≡ unvaried 0 false (negsuc 127))
  pub item12 : (fixed_to_single 16777217 ≡ single 256) × (fixed_to_single 16777219 ≡ fraction 16777220 65536)
  pub item13 :
      (of_two (styled (stated (single 0))) (slanting (stated (single 0))) (for_style (stated (single 14))) true ≡ Nothing)
      × (of_two (slanting (stated (single 0))) (styled (stated (single 0))) (for_style (stated (single 14))) true ≡ Nothing)
