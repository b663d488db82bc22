-- Section 7's thirteen items, proved together by computing the definitions.
use mathlib.Core.Path.{◌≡◌, refl, sym, ◌∙◌}
use mathlib.Core.Bool.{Bool, true, false, cond}
use lib.IntN.{pos, negsuc}
use lib.Ieee.{fin, of_int, round, add, sum, mul, lt, le, neg, to_bits, is_nan, to_unsigned, to_signed}
use Rattle.font.specs.First.{first}
use Rattle.font.specs.Single.{single, order_key, key_of_bits, whole_percent, fixed_to_single, accepted_ratio}
use Rattle.font.specs.Attributes.{accepted_angle, accepted_style, accepted_attributes}
use Rattle.font.specs.Slant.{is_reading}
use Rattle.font.specs.Overrides.{axis_of, accepted_axis, accepted_face, refusal_of, face_refusal}
use Rattle.font.specs.declared.attributes.FontStyle.TheVariants.{Normal}
use Rattle.matching.specs.Rank.{lower, before, grouped}
use Rattle.matching.specs.Below.{some, every, last}
use Rattle.matching.specs.Order.{zero_angle, fourteen, minus_fourteen, four_hundred, five_hundred, angle, oblique, width_standing, normal_standing, italic_standing, other_standing, side_standing, right_standing, left_standing, oblique_standing, style_standing, weight_standing, same_percent, bears, slant_at, in_width, in_style, in_weight, bearer_of, bearer, has_group, width_before, style_before, weight_before, stands_before, stands_first, choice}
use Rattle.matching.specs.Matching.{style_number, axis_at, axis_count_of, axis_place, has_axis, slnt, face_of, blank, family_of, request_of, refused_as, faces_refusal, family_refusal, answered, match_font}
use Rattle.matching.specs.Synthesis.{wdth, wght, ital, width_setting, differs_from, weight_setting, emboldened, degrees_of, leans_right, italic_lean, oblique_lean, lean_of, setting_of, skew_of, unvaried, put, added, synthesized, varies_of, synthesis_refusal, synthesis_of}
use Rattle.matching.specs.Faces.{fraction, minus_fraction, face_with, weighing, wide, styled, slanting, stated, of_two, for_weight, for_width, for_style, FacesToTry}

-- item 12's numbers, each computed by itself
nearest_1 : fixed_to_single 16777217 ≡ fin false 1 (pos 8)
unfolding fixed_to_single round
nearest_1 = refl

whole_1 : single 256 ≡ fin false 1 (pos 8)
unfolding single of_int round
whole_1 = refl

nearest_2 : fixed_to_single 16777219 ≡ fin false 4194305 (negsuc 13)
unfolding fixed_to_single round
nearest_2 = refl

whole_2 : fraction 16777220 65536 ≡ fin false 4194305 (negsuc 13)
unfolding fraction round
whole_2 = refl

pub tried : FacesToTry
unfolding is_reading accepted_ratio accepted_angle accepted_style accepted_attributes axis_of accepted_axis accepted_face refusal_of face_refusal single of_int round add sum mul lt le neg to_bits is_nan to_unsigned to_signed order_key key_of_bits whole_percent first lower before grouped some every last zero_angle fourteen minus_fourteen four_hundred five_hundred angle oblique width_standing normal_standing italic_standing other_standing side_standing right_standing left_standing oblique_standing style_standing weight_standing same_percent bears slant_at in_width in_style in_weight bearer_of bearer has_group width_before style_before weight_before stands_before stands_first choice style_number axis_at axis_count_of axis_place has_axis slnt face_of blank family_of request_of refused_as faces_refusal family_refusal answered match_font wdth wght ital width_setting weight_setting differs_from emboldened degrees_of leans_right italic_lean oblique_lean lean_of setting_of skew_of unvaried put added synthesized varies_of synthesis_refusal synthesis_of fraction minus_fraction face_with weighing wide styled slanting stated of_two for_weight for_width for_style
tried =
    record {
      item1 = λ on. refl;
      item2 = λ on. refl;
      item3 = λ on. refl;
      item4 = λ on. refl;
      item5 = λ on. (refl, refl);
      item6 = λ on. (refl, refl);
      item7 = λ on. (refl, refl);
      item8 = (refl, refl, refl, refl);
      item9 = λ on. refl;
      item10 = emboldens;
      item11 = skews;
      item12 = (nearest_1 ∙ sym whole_1, nearest_2 ∙ sym whole_2);
      item13 = (refl, refl);
    }
  where
    emboldens : (new : Bool)
        → (synthesis_of (cond new 1 0) (weighing 400) (for_weight 600) ≡ unvaried 0 false (pos 0))
        × (synthesis_of (cond new 1 0) (weighing 400) (for_weight 601) ≡ unvaried 0 true (pos 0))
    emboldens true = (refl, refl)
    emboldens false = (refl, refl)

    skews : (new : Bool)
        → (synthesis_of (cond new 1 0) (styled Normal) (for_style (stated (fraction 9 10))) ≡ unvaried 0 false (pos 0))
        × (synthesis_of (cond new 1 0) (styled Normal) (for_style (stated (minus_fraction 149 10))) ≡ unvaried 0 false (negsuc 13))
        × (synthesis_of (cond new 1 0) (styled Normal) (for_style (stated (single 200))) ≡ unvaried 0 false (pos 127))
        × (synthesis_of (cond new 1 0) (styled Normal) (for_style (stated (neg (single 200)))) ≡ unvaried 0 false (negsuc 127))
    skews true = (refl, refl, refl, refl)
    skews false = (refl, refl, refl, refl)
