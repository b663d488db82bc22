-- Section 7's example: "Weights 400 and 700, no axes, both held, one family, request 700, most 8" offers place 1 and then place 0, which is emboldened.
use Prim.Native.Nat.{ℕ}
use mathlib.Core.Path.{◌≡◌, refl}
use mathlib.Core.Bool.{true, false, cond}
use mathlib.Core.List.{[], ◌∷◌}
use lib.Dec.{eqb}
use lib.Ieee.{of_int, round, add, sum, mul, lt, neg, to_bits, is_nan, to_unsigned}
use lib.IntN.{pos}
use Rattle.font.specs.First.{first}
use Rattle.font.specs.Single.{single, order_key, key_of_bits, whole_percent}
use Rattle.font.specs.Attributes.{default_attributes}
use Rattle.font.specs.declared.font.FontInfo.{FontInfo}
use Rattle.matching.specs.Rank.{lower, before, grouped}
use Rattle.matching.specs.Below.{some, every, last, places_below}
use Rattle.matching.specs.Order.{zero_angle, fourteen, minus_fourteen, four_hundred, five_hundred, angle, oblique, width_standing, normal_standing, italic_standing, other_standing, side_standing, right_standing, left_standing, oblique_standing, style_standing, weight_standing, same_percent, bears, slant_at, in_width, in_style, in_weight, bearer_of, bearer, has_group, width_before, style_before, weight_before, stands_before, stands_first, choice, same_face, equal_places}
use Rattle.matching.specs.Matching.{style_number, axis_at, axis_count_of, axis_place, has_axis, slnt, face_of, blank, family_of, request_of, default_place}
use Rattle.matching.specs.Synthesis.{wdth, wght, ital, width_setting, weight_setting, differs_from, emboldened, italic_lean, oblique_lean, lean_of, setting_of, skew_of, unvaried, put, added, varies_of, synthesized}
use Rattle.matching.specs.Faces.{face_with, weighing}
use Rattle.query.specs.View.{View}
use Rattle.query.specs.Offers.{keep, among, held_equal, offers_default, family_offers, offer_of, members_of, faces_of, held_in, number_offers, in_turn, offers}

abbrev two : ℕ → FontInfo
two i = cond (eqb i 0) (weighing 400) (weighing 700)

abbrev both : View
both = record { font = two; held = λ i. true; families = (0 ∷ 1 ∷ []) ∷ [] }

pub two_faces : offers (number_offers both (request_of (weighing 700).attributes true)) 8 (0 ∷ []) [] ≡ offer_of 0 1 ∷ offer_of 0 0 ∷ []
unfolding single of_int round add sum mul lt neg to_bits is_nan to_unsigned order_key key_of_bits whole_percent default_attributes first lower before grouped some every last places_below zero_angle fourteen minus_fourteen four_hundred five_hundred angle oblique width_standing normal_standing italic_standing other_standing side_standing right_standing left_standing oblique_standing style_standing weight_standing same_percent bears slant_at in_width in_style in_weight bearer_of bearer has_group width_before style_before weight_before stands_before stands_first choice same_face equal_places style_number axis_at axis_count_of axis_place has_axis slnt face_of blank family_of request_of default_place face_with weighing keep among held_equal offers_default family_offers offer_of members_of faces_of held_in number_offers in_turn offers
two_faces = refl

pub two_syntheses : (reading : ℕ)
    → (synthesized reading (two 1).attributes (varies_of (two 1)) (weighing 700).attributes ≡ unvaried 0 false (pos 0))
    × (synthesized reading (two 0).attributes (varies_of (two 0)) (weighing 700).attributes ≡ unvaried 0 true (pos 0))
unfolding single of_int round add sum mul lt neg to_bits is_nan to_unsigned order_key key_of_bits first axis_at axis_count_of axis_place has_axis slnt face_with weighing synthesized varies_of unvaried added put width_setting weight_setting differs_from emboldened skew_of italic_lean oblique_lean lean_of setting_of wdth wght ital
two_syntheses reading = (refl, refl)
