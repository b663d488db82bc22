-- What the two readings make of a synthesis: reading 0 is section 5 as it stands without a reading, and reading 1 has the value of `slnt` negated and nothing else
-- another. Proved in proofs/TwoReadings.antt.
use Rattle.std.specs.Prelude.{ℕ, ◌≡◌, Bool, false, cond, [], ◌∷◌, eqb, pos, negsuc, Float}
use Rattle.std.specs.Float.Ieee.{neg, to_signed}
use Rattle.font.specs.Single.{single}
use Rattle.font.specs.Attributes.{attributes_of, accepted_attributes}
use Rattle.font.specs.Slant.{is_reading}
use Rattle.font.specs.Overrides.{face_refusal}
use Rattle.font.specs.declared.attributes.Angle.{Angle}
use Rattle.font.specs.declared.attributes.Angle.TheVariants.{Unstated}
use Rattle.font.specs.declared.attributes.FontStyle.{FontStyle}
use Rattle.font.specs.declared.attributes.FontStyle.TheVariants.{Normal, Italic, Oblique}
use Rattle.font.specs.declared.attributes.Attributes.{Attributes}
use Rattle.font.specs.declared.font.FontInfo.{FontInfo}
use Rattle.matching.specs.declared.synthesis.Lean.TheVariants.{Upright, Varied, Skewed}
use Rattle.matching.specs.declared.synthesis.Varies.{Varies}
use Rattle.matching.specs.Synthesis.{SynthesisAnswer}
use Rattle.matching.specs.Matching.{slnt}
use Rattle.matching.specs.Synthesis.{ital, setting, width_setting, weight_setting, emboldened, degrees_of, leans_right, lean_of, setting_of, skew_of, unvaried, added, synthesized, varies_of, synthesis_refusal, synthesis_of, opposite_slant}
use Rattle.matching.specs.Faces.{face_with, styled, slanting, stated, for_style}

-- Reading 0 is all that stood: each definition computes to what it was without a reading, over those below it under reading 0.
pub record Old : Type 0 where
  pub italic : (v : Varies) → lean_of 0 v Normal Italic ≡ cond v.italic (Varied (setting ital (single 1))) (cond v.slant (Varied (setting slnt (single 14))) (Skewed (pos 14)))
  pub oblique : (v : Varies) (a : Angle)
      → lean_of 0 v Normal (Oblique a)
      ≡ cond v.slant (Varied (setting slnt (degrees_of a))) (cond (leans_right v (degrees_of a)) (Varied (setting ital (single 1))) (Skewed (to_signed 7 (degrees_of a))))
  pub upright : (v : Varies) → lean_of 0 v Normal Normal ≡ Upright
  pub italic_face : (v : Varies) (wanted : FontStyle) → lean_of 0 v Italic wanted ≡ Upright
  pub oblique_face : (v : Varies) (a : Angle) (wanted : FontStyle) → lean_of 0 v (Oblique a) wanted ≡ Upright
  pub in_order : (own : Attributes) (v : Varies) (a : Attributes)
      → synthesized 0 own v a
      ≡ added
      (added
      (added
      (unvaried 0 (emboldened v own.weight.value a.weight.value) (skew_of (lean_of 0 v own.style a.style)))
      (width_setting v own.width.ratio a.width.ratio))
      (weight_setting v a.weight.value))
      (setting_of (lean_of 0 v own.style a.style))
  pub refusal : (font : FontInfo) (a : Attributes)
      → synthesis_refusal 0 font a ≡ cond (eqb (face_refusal font) 0) (cond (accepted_attributes a) 0 26) (face_refusal font)
  pub by_value : (font : FontInfo) (a : Attributes)
      → synthesis_of 0 font a
      ≡ cond (eqb (synthesis_refusal 0 font a) 0) (synthesized 0 font.attributes (varies_of font) a) (unvaried (synthesis_refusal 0 font a) false (pos 0))

pub record TwoReadings : Type 0 where
  pub old : Old
  -- reading 1: the same synthesis with the value of `slnt` negated
  pub opposite : (own : Attributes) (v : Varies) (a : Attributes) → synthesized 1 own v a ≡ opposite_slant (synthesized 0 own v a)
  pub by_value : (font : FontInfo) (a : Attributes) → synthesis_of 1 font a ≡ opposite_slant (synthesis_of 0 font a)
  -- any other number
  pub unknown : (reading : ℕ) (font : FontInfo) (a : Attributes) → is_reading reading ≡ false → synthesis_of reading font a ≡ unvaried 25 false (pos 0)

-- ---- small syntheses, each whole

-- one setting, and no other
unfoldable pub set_to : ℕ → Float → SynthesisAnswer
set_to tag value =
    record {
      refusal = 0;
      tags = tag ∷ 0 ∷ 0 ∷ [];
      values = value ∷ single 0 ∷ single 0 ∷ [];
      len = 1;
      embolden = false;
      skew = pos 0;
    }

-- a normal face with an `ital` axis alone
unfoldable pub italicized : FontInfo
italicized = face_with (attributes_of (single 1) Normal (single 400)) (record { tag = ital; min = single 0; default = single 0; max = single 1 } ∷ [])

-- under each reading the synthesis of a face for a style
unfoldable pub made : ℕ → FontInfo → FontStyle → SynthesisAnswer
made reading font style = synthesis_of reading font (for_style style)

pub record SlantsToTry : Type 0 where
  -- on a slant axis
  pub italic : (made 0 (slanting Normal) Italic ≡ set_to slnt (single 14)) × (made 1 (slanting Normal) Italic ≡ set_to slnt (neg (single 14)))
  pub unstated : (made 0 (slanting Normal) (Oblique Unstated) ≡ set_to slnt (single 14))
      × (made 1 (slanting Normal) (Oblique Unstated) ≡ set_to slnt (neg (single 14)))
  pub right : (made 0 (slanting Normal) (stated (single 12)) ≡ set_to slnt (single 12))
      × (made 1 (slanting Normal) (stated (single 12)) ≡ set_to slnt (neg (single 12)))
  pub left : (made 0 (slanting Normal) (stated (neg (single 12))) ≡ set_to slnt (neg (single 12)))
      × (made 1 (slanting Normal) (stated (neg (single 12))) ≡ set_to slnt (single 12))
  pub zero : (made 0 (slanting Normal) (stated (single 0)) ≡ set_to slnt (single 0))
      × (made 1 (slanting Normal) (stated (single 0)) ≡ set_to slnt (single 0))
  pub minus_zero : (made 0 (slanting Normal) (stated (neg (single 0))) ≡ set_to slnt (neg (single 0)))
      × (made 1 (slanting Normal) (stated (neg (single 0))) ≡ set_to slnt (single 0))
  -- `ital` by the requested sign, and the skew as requested, under both
  pub italic_axis : (new : Bool) → made (cond new 1 0) italicized (stated (single 12)) ≡ set_to ital (single 1)
  pub no_italic : (new : Bool) → made (cond new 1 0) italicized (stated (neg (single 12))) ≡ unvaried 0 false (negsuc 11)
  pub skew : (new : Bool) → made (cond new 1 0) (styled Normal) (stated (single 12)) ≡ unvaried 0 false (pos 12)
  pub italic_skew : (new : Bool) → made (cond new 1 0) (styled Normal) Italic ≡ unvaried 0 false (pos 14)
