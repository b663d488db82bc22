-- Section 5: synthesis.
use Rattle.std.specs.Prelude.{ℕ, ◌+◌, Bool, false, not, is_some, ◌&&◌, cond, List, [], ◌∷◌, ltb, eqb, ℤ, pos, Float, set, map, Result, Ok, Err, Option, None, Some}
use Rattle.std.specs.Float.{binary32}
use Rattle.std.specs.Float.Ieee.{add, mul, lt, to_signed}
use Rattle.font.specs.Single.{single, order_key}
use Rattle.font.specs.Attributes.{accepted_attributes}
use Rattle.font.specs.Slant.{is_reading, opposite, slant_under}
use Rattle.font.specs.Overrides.{face_refusal}
use Rattle.font.specs.Refusals.{number}
use Rattle.font.specs.declared.refusal.Refusal.{Refusal}
use Rattle.font.specs.declared.attributes.Angle.{Angle}
use Rattle.font.specs.declared.attributes.Angle.TheVariants.{Unstated, Degrees}
use Rattle.font.specs.declared.attributes.FontStyle.{FontStyle}
use Rattle.font.specs.declared.attributes.FontStyle.TheVariants.{Normal, Italic, Oblique}
use Rattle.font.specs.declared.attributes.Attributes.{Attributes}
use Rattle.font.specs.declared.font.FontInfo.{FontInfo}
use Rattle.matching.specs.declared.synthesis.Setting.{Setting}
use Rattle.matching.specs.declared.synthesis.Synthesis.{Synthesis}
use Rattle.matching.specs.declared.synthesis.Lean.{Lean}
use Rattle.matching.specs.declared.synthesis.Lean.TheVariants.{Upright, Varied, Skewed}
use Rattle.matching.specs.declared.synthesis.Varies.{Varies}
use Rattle.matching.specs.Order.{zero_angle}
use Rattle.matching.specs.Matching.{slnt, axis_at, axis_place, has_axis}

-- the tags, as big-endian numbers of their four bytes
unfoldable pub wdth : ℕ
wdth = 0x77647468

unfoldable pub wght : ℕ
wght = 0x77676874

unfoldable pub ital : ℕ
ital = 0x6974616C

-- a variation setting
abbrev pub setting : ℕ → Float → Setting
setting tag value = record { tag = tag; value = value }

-- "`wdth` = requested ratio times 100, rounded once, if that axis exists and ratios differ"
unfoldable pub width_setting : Varies → Float → Float → Option Setting
width_setting v own wanted =
    cond (v.width && not (eqb (order_key own) (order_key wanted))) (Some (setting wdth (mul binary32 wanted (single 100)))) None

-- "`wght` = requested weight, if the first such axis has a default that differs from it"
unfoldable pub differs_from : Option Float → Float → Bool
differs_from None wanted = false
differs_from (Some default) wanted = not (eqb (order_key default) (order_key wanted))

unfoldable pub weight_setting : Varies → Float → Option Setting
weight_setting v wanted = cond (differs_from v.weight wanted) (Some (setting wght wanted)) None

-- "without `wght`, embolden if the request exceeds own weight + 200, that sum rounded once"
unfoldable pub emboldened : Varies → Float → Float → Bool
emboldened v own wanted = not (is_some v.weight) && lt (add binary32 own (single 200)) wanted

-- "unstated = 14"
unfoldable pub degrees_of : Angle → Float
degrees_of Unstated = single 14
degrees_of (Degrees x) = x

-- "Italic: `ital` 1, else `slnt` 14, else skew 14." The second reading "negates .. the `slnt` value on synthesis".
unfoldable pub italic_lean : ℕ → Varies → Lean
italic_lean reading v =
    cond v.italic (Varied (setting ital (single 1))) (cond v.slant (Varied (setting slnt (slant_under reading (single 14)))) (Skewed (pos 14)))

-- "Oblique (unstated = 14): `slnt` degrees; else, if degrees > 0, `ital` 1; else skew, degrees truncated toward zero and held to −128 to 127."
unfoldable pub leans_right : Varies → Float → Bool
leans_right v d = v.italic && ltb zero_angle (order_key d)

unfoldable pub oblique_lean : ℕ → Varies → Float → Lean
oblique_lean reading v d =
    cond v.slant (Varied (setting slnt (slant_under reading d))) (cond (leans_right v d) (Varied (setting ital (single 1))) (Skewed (to_signed 7 d)))

-- "Style matters only for a normal face and another requested style." The face's own style comes first.
unfoldable pub lean_of : ℕ → Varies → FontStyle → FontStyle → Lean
lean_of reading v Normal Normal = Upright
lean_of reading v Normal Italic = italic_lean reading v
lean_of reading v Normal (Oblique a) = oblique_lean reading v (degrees_of a)
lean_of reading v Italic w = Upright
lean_of reading v (Oblique b) w = Upright

-- the setting of a lean, and its skew
unfoldable pub setting_of : Lean → Option Setting
setting_of Upright = None
setting_of (Varied x) = Some x
setting_of (Skewed degrees) = None

unfoldable pub skew_of : Lean → ℤ
skew_of Upright = pos 0
skew_of (Varied x) = pos 0
skew_of (Skewed degrees) = degrees

-- the answer of a synthesis as the guide lays it out: the number of its refusal, 0 for none; settings in three slots, those past the length zero; emboldening;
-- skew in degrees
pub record SynthesisAnswer : Type 0 where
  pub refusal : ℕ
  pub tags : List ℕ
  pub values : List Float
  pub len : ℕ
  pub embolden : Bool
  pub skew : ℤ

-- no settings
unfoldable pub unvaried : ℕ → Bool → ℤ → SynthesisAnswer
unvaried number bold skew =
    record {
      refusal = number;
      tags = 0 ∷ 0 ∷ 0 ∷ [];
      values = single 0 ∷ single 0 ∷ single 0 ∷ [];
      len = 0;
      embolden = bold;
      skew = skew;
    }

-- one setting more, in the next of three slots; refusal 29 is "a fourth setting"
unfoldable pub put : SynthesisAnswer → ℕ → Float → SynthesisAnswer
put s tag value =
    cond (ltb s.len 3)
    (record {
      refusal = s.refusal;
      tags = set s.tags s.len tag;
      values = set s.values s.len value;
      len = s.len + 1;
      embolden = s.embolden;
      skew = s.skew;
    })
    (record { refusal = 29; tags = s.tags; values = s.values; len = s.len; embolden = s.embolden; skew = s.skew })

unfoldable pub added : SynthesisAnswer → Option Setting → SynthesisAnswer
added s None = s
added s (Some x) = put s x.tag x.value

-- so of the answer of a call: a synthesis, or a refusal, which is beside no settings
unfoldable pub laid_out : Synthesis → SynthesisAnswer
laid_out s =
    record {
      refusal = 0;
      tags = map (λ (x : Setting). x.tag) s.settings;
      values = map (λ (x : Setting). x.value) s.settings;
      len = s.len;
      embolden = s.embolden;
      skew = s.skew;
    }

unfoldable pub synthesis_in : Result Synthesis Refusal → SynthesisAnswer
synthesis_in (Ok s) = laid_out s
synthesis_in (Err why) = unvaried (number why) false (pos 0)

-- and of the answer of a step: beside a refusal stands what was settled before it
unfoldable pub settled : SynthesisAnswer → Result Synthesis Refusal → SynthesisAnswer
settled before (Ok s) = laid_out s
settled before (Err why) =
    record {
      refusal = number why;
      tags = before.tags;
      values = before.values;
      len = before.len;
      embolden = before.embolden;
      skew = before.skew;
    }

-- "In this order": width, weight, style. The reading, the face's own attributes, its axes, and the request.
unfoldable pub synthesized : ℕ → Attributes → Varies → Attributes → SynthesisAnswer
synthesized reading own v a =
    added
    (added
    (added
    (unvaried 0 (emboldened v own.weight.value a.weight.value) (skew_of (lean_of reading v own.style a.style)))
    (width_setting v own.width.ratio a.width.ratio))
    (weight_setting v a.weight.value))
    (setting_of (lean_of reading v own.style a.style))

-- a face's axes, as synthesis looks at them
unfoldable pub varies_of : FontInfo → Varies
varies_of font =
    record {
      width = has_axis font wdth;
      weight = cond (has_axis font wght) (Some (axis_at font (axis_place font wght)).default) None;
      slant = has_axis font slnt;
      italic = has_axis font ital;
    }

-- a call on a face by value: 25 for a value that is no reading, "first below the job"; 19, then 26; a refused answer is empty
unfoldable pub synthesis_refusal : ℕ → FontInfo → Attributes → ℕ
synthesis_refusal reading font a =
    cond (is_reading reading)
    (cond (eqb (face_refusal font) 0) (cond (accepted_attributes a) 0 26) (face_refusal font))
    25

unfoldable pub synthesis_of : ℕ → FontInfo → Attributes → SynthesisAnswer
synthesis_of reading font a =
    cond (eqb (synthesis_refusal reading font a) 0)
    (synthesized reading font.attributes (varies_of font) a)
    (unvaried (synthesis_refusal reading font a) false (pos 0))

-- ---- what reading 1 makes of a synthesis of reading 0, said without a reading: the value that `slnt` is set to is negated, and nothing else is another

unfoldable pub opposite_values : List ℕ → List Float → List Float
opposite_values [] xs = xs
opposite_values (t ∷ ts) [] = []
opposite_values (t ∷ ts) (x ∷ xs) = cond (eqb t slnt) (opposite x) x ∷ opposite_values ts xs

unfoldable pub opposite_slant : SynthesisAnswer → SynthesisAnswer
opposite_slant s =
    record {
      refusal = s.refusal;
      tags = s.tags;
      values = opposite_values s.tags s.values;
      len = s.len;
      embolden = s.embolden;
      skew = s.skew;
    }
