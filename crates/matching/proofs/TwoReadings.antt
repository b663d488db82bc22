-- The two readings of a synthesis (`specs/TwoReadings.antt`).
use Rattle.std.specs.Prelude.{None, Some}
use Prim.Native.Nat.{ℕ}
use mathlib.Core.Path.{◌≡◌, refl}
use mathlib.Core.Bool.{Bool, true, false, not, ◌&&◌, cond}
use lib.Dec.{eqb}
use lib.IntN.{pos, negsuc}
use lib.Ieee.{Float, binary32, of_int, round, add, sum, mul, lt, eq, le, neg, to_bits, is_nan, to_signed}
use Rattle.font.specs.First.{first, every}
use Rattle.font.specs.Single.{single, order_key, key_of_bits, accepted_ratio}
use Rattle.font.specs.Attributes.{accepted_angle, accepted_style, accepted_attributes}
use Rattle.font.specs.Slant.{is_reading, opposite, slant_under}
use Rattle.font.specs.Overrides.{axis_of, accepted_axis, accepted_face, refusal_of, face_refusal}
use Rattle.font.specs.declared.attributes.FontStyle.{FontStyle}
use Rattle.font.specs.declared.attributes.FontStyle.TheVariants.{Normal, Italic, Oblique}
use Rattle.font.specs.declared.attributes.Attributes.{Attributes}
use Rattle.font.specs.declared.font.FontInfo.{FontInfo}
use Rattle.matching.specs.declared.synthesis.Lean.{Lean}
use Rattle.matching.specs.declared.synthesis.Lean.TheVariants.{Upright, Varied, Skewed}
use Rattle.matching.specs.declared.synthesis.Varies.{Varies}
use Rattle.matching.specs.Synthesis.{differs_from, SynthesisAnswer}
use Rattle.matching.specs.Order.{zero_angle}
use Rattle.matching.specs.Matching.{axis_at, axis_count_of, axis_place, has_axis, slnt}
use Rattle.matching.specs.Synthesis.{wdth, wght, ital, setting, width_setting, weight_setting, emboldened, degrees_of, leans_right, italic_lean, oblique_lean, lean_of, setting_of, skew_of, unvaried, put, added, synthesized, varies_of, synthesis_refusal, synthesis_of, opposite_values, opposite_slant}
use Rattle.matching.specs.Faces.{face_with, styled, slanting, stated, for_style}
use Rattle.matching.specs.TwoReadings.{Old, TwoReadings, set_to, italicized, made, SlantsToTry}

-- ---- the lean

-- with the value of `slnt` negated
opposite_lean : Lean → Lean
opposite_lean Upright = Upright
opposite_lean (Varied x) = Varied (setting x.tag (cond (eqb x.tag slnt) (opposite x.value) x.value))
opposite_lean (Skewed degrees) = Skewed degrees

italic_same : (v : Varies) → italic_lean 1 v ≡ opposite_lean (italic_lean 0 v)
unfolding italic_lean opposite_lean slant_under ital slnt
italic_same v = go v.italic v.slant
  where
    go : (a b : Bool) → cond a (Varied (setting ital (single 1))) (cond b (Varied (setting slnt (opposite (single 14)))) (Skewed (pos 14)))
        ≡ opposite_lean (cond a (Varied (setting ital (single 1))) (cond b (Varied (setting slnt (single 14))) (Skewed (pos 14))))
    go true b = refl
    go false true = refl
    go false false = refl

oblique_same : (v : Varies) (d : Float) → oblique_lean 1 v d ≡ opposite_lean (oblique_lean 0 v d)
unfolding oblique_lean opposite_lean slant_under ital slnt
oblique_same v d = go v.slant (leans_right v d)
  where
    go : (a b : Bool) → cond a (Varied (setting slnt (opposite d))) (cond b (Varied (setting ital (single 1))) (Skewed (to_signed 7 d)))
        ≡ opposite_lean (cond a (Varied (setting slnt d)) (cond b (Varied (setting ital (single 1))) (Skewed (to_signed 7 d))))
    go true b = refl
    go false true = refl
    go false false = refl

lean_same : (v : Varies) (own wanted : FontStyle) → lean_of 1 v own wanted ≡ opposite_lean (lean_of 0 v own wanted)
unfolding lean_of opposite_lean
lean_same v Normal Normal = refl
lean_same v Normal Italic = italic_same v
lean_same v Normal (Oblique a) = oblique_same v (degrees_of a)
lean_same v Italic w = refl
lean_same v (Oblique b) w = refl

-- ---- the synthesis of a lean, with `wdth` and `wght` before it or not

three : Bool → Bool → Float → Bool → Float → Lean → SynthesisAnswer
three bold a x b y l =
    added (added (added (unvaried 0 bold (skew_of l)) (cond a (Some (setting wdth x)) None)) (cond b (Some (setting wght y)) None)) (setting_of l)

three_same : (bold a : Bool) (x : Float) (b : Bool) (y : Float) (l : Lean) → three bold a x b y (opposite_lean l) ≡ opposite_slant (three bold a x b y l)
unfolding three opposite_lean skew_of setting_of added put unvaried opposite_slant opposite_values wdth wght slnt
three_same bold true x true y Upright = refl
three_same bold true x true y (Varied z) = refl
three_same bold true x true y (Skewed d) = refl
three_same bold true x false y Upright = refl
three_same bold true x false y (Varied z) = refl
three_same bold true x false y (Skewed d) = refl
three_same bold false x true y Upright = refl
three_same bold false x true y (Varied z) = refl
three_same bold false x true y (Skewed d) = refl
three_same bold false x false y Upright = refl
three_same bold false x false y (Varied z) = refl
three_same bold false x false y (Skewed d) = refl

opposite_same : (own : Attributes) (v : Varies) (a : Attributes) → synthesized 1 own v a ≡ opposite_slant (synthesized 0 own v a)
unfolding synthesized width_setting weight_setting three
opposite_same own v a =
    rw (lean_same v own.style a.style)
    (three_same (emboldened v own.weight.value a.weight.value)
    (v.width && not (eqb (order_key own.width.ratio) (order_key a.width.ratio)))
    (mul binary32 a.width.ratio (single 100))
    (differs_from v.weight a.weight.value)
    a.weight.value
    (lean_of 0 v own.style a.style))

refused : (n : ℕ) → unvaried n false (pos 0) ≡ opposite_slant (unvaried n false (pos 0))
unfolding unvaried opposite_slant opposite_values slnt
refused n = refl

by_value_same : (font : FontInfo) (a : Attributes) → synthesis_of 1 font a ≡ opposite_slant (synthesis_of 0 font a)
unfolding synthesis_of synthesis_refusal is_reading
by_value_same font a = go (cond (eqb (face_refusal font) 0) (cond (accepted_attributes a) 0 26) (face_refusal font))
  where
    either : (b : Bool) (n : ℕ)
        → cond b (synthesized 1 font.attributes (varies_of font) a) (unvaried n false (pos 0))
        ≡ opposite_slant (cond b (synthesized 0 font.attributes (varies_of font) a) (unvaried n false (pos 0)))
    either true n = opposite_same font.attributes (varies_of font) a
    either false n = refused n

    go : (n : ℕ)
        → cond (eqb n 0) (synthesized 1 font.attributes (varies_of font) a) (unvaried n false (pos 0))
        ≡ opposite_slant (cond (eqb n 0) (synthesized 0 font.attributes (varies_of font) a) (unvaried n false (pos 0)))
    go n = either (eqb n 0) n

-- by computing
old_kept : Old
unfolding lean_of italic_lean oblique_lean slant_under synthesized synthesis_refusal is_reading synthesis_of
old_kept =
    record {
      italic = λ v. refl;
      oblique = λ v a. refl;
      upright = λ v. refl;
      italic_face = λ v wanted. refl;
      oblique_face = λ v a wanted. refl;
      in_order = λ own v a. refl;
      refusal = λ font a. refl;
      by_value = λ font a. refl;
    }

pub two_readings : TwoReadings
unfolding synthesis_of synthesis_refusal
two_readings =
    record {
      old = old_kept;
      opposite = opposite_same;
      by_value = by_value_same;
      unknown = λ reading font a e. rw e;
    }

-- ---- the small syntheses, by computing the definitions

pub tried : SlantsToTry
unfolding is_reading slant_under opposite accepted_ratio accepted_angle accepted_style accepted_attributes axis_of accepted_axis accepted_face refusal_of face_refusal single of_int round add sum mul lt eq le neg to_bits is_nan to_signed order_key key_of_bits first every zero_angle axis_at axis_count_of axis_place has_axis slnt wdth wght ital width_setting weight_setting differs_from emboldened degrees_of leans_right italic_lean oblique_lean lean_of setting_of skew_of unvaried put added synthesized varies_of synthesis_refusal synthesis_of face_with styled slanting stated for_style set_to italicized made
tried =
    record {
      italic = (refl, refl);
      unstated = (refl, refl);
      right = (refl, refl);
      left = (refl, refl);
      zero = (refl, refl);
      minus_zero = (refl, refl);
      italic_axis = both (λ reading. made reading italicized (stated (single 12)) ≡ set_to ital (single 1)) refl refl;
      no_italic = both (λ reading. made reading italicized (stated (neg (single 12))) ≡ unvaried 0 false (negsuc 11)) refl refl;
      skew = both (λ reading. made reading (styled Normal) (stated (single 12)) ≡ unvaried 0 false (pos 12)) refl refl;
      italic_skew = both (λ reading. made reading (styled Normal) Italic ≡ unvaried 0 false (pos 14)) refl refl;
    }
  where
    both : (P : ℕ → Type 0) → P 0 → P 1 → (new : Bool) → P (cond new 1 0)
    both P old new true = new
    both P old new false = old
