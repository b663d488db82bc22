-- Section 4: the order of faces.
use Rattle.std.specs.Prelude.{ℕ, ◌-◌, ◌≤◌, ◌<◌, ◌≡◌, Bool, true, false, not, ◌&&◌, ◌||◌, cond, List, [], ◌++◌, leb, ltb, eqb, length, replicate}
use Rattle.std.specs.Float.Ieee.{neg}
use Rattle.font.specs.First.{first}
use Rattle.font.specs.Single.{single, order_key}
use Rattle.matching.specs.declared.rank.Standing.{Standing}
use Rattle.matching.specs.declared.rank.Standing.TheVariants.{Up, Down, Nowhere}
use Rattle.matching.specs.declared.stages.Places.{Places}
-- A request: its whole percent, its style and weight as numbers, as those of a face, and whether synthesis is on.
use Rattle.matching.specs.declared.order.Request.{Request}
use Rattle.matching.specs.Rank.{before, grouped, OneGroupATurn}
use Rattle.matching.specs.Below.{some, every, last, places_below}

-- A face: its whole percent, its style, its weight, its exact ratio, and whether it has a slant axis (`slnt`). The order looks at all but the exact ratio, which
-- the equal list looks at. Weights, ratios and angles are given by their order numbers raised by 2^31 (section 1), so that equality and comparison are those of
-- section 1 and both zeros are one number.
-- A style is one number too: 0 normal, 1 italic, 2 oblique unstated; any other number is oblique stated, and is the angle. No finite angle is 0, 1 or 2.
pub record Face : Type 0 where
  pub percent : ℕ
  pub style : ℕ
  pub weight : ℕ
  -- the exact ratio, by its order number
  pub ratio : ℕ
  pub slant : Bool

-- A family: its faces by place. Only those below the count are of the family.
pub record Family : Type 0 where
  pub count : ℕ
  pub face : ℕ → Face

unfoldable pub zero_angle : ℕ
zero_angle = order_key (single 0)

unfoldable pub fourteen : ℕ
fourteen = order_key (single 14)

unfoldable pub minus_fourteen : ℕ
minus_fourteen = order_key (neg (single 14))

unfoldable pub four_hundred : ℕ
four_hundred = order_key (single 400)

unfoldable pub five_hundred : ℕ
five_hundred = order_key (single 500)

-- "Unstated ranks as 14"
unfoldable pub angle : ℕ → ℕ
angle s = cond (eqb s 2) fourteen s

unfoldable pub oblique : ℕ → Bool
oblique s = leb 2 s

-- "Width, by whole percent: equal first. Request up to 100: below, descending, then above, ascending. Over 100: above, ascending, then below, descending."
unfoldable pub width_standing : ℕ → ℕ → Standing
width_standing w x =
    cond (eqb x w)
    (Up 0 x)
    (cond (leb w 100) (cond (ltb x w) (Down 1 x) (Up 2 x)) (cond (ltb w x) (Up 1 x) (Down 2 x)))

-- The three requests below speak of a style s that is not the requested one. A group of one style, and one that goes "by place", has the order number 0 throughout.
-- "Normal: x ≥ 0 up; italic; x < 0 down."
unfoldable pub normal_standing : ℕ → Standing
normal_standing s = cond (eqb s 1) (Up 2 0) (cond (leb zero_angle (angle s)) (Up 1 (angle s)) (Down 3 (angle s)))

-- "Italic: x ≥ 14 up; 0 < x < 14 down; x < 0 down; the rest by place."
unfoldable pub italic_standing : ℕ → Standing
italic_standing s =
    cond (oblique s && leb fourteen (angle s))
    (Up 1 (angle s))
    (cond (oblique s && ltb zero_angle (angle s))
    (Down 2 (angle s))
    (cond (oblique s && ltb (angle s) zero_angle) (Down 3 (angle s)) (Up 4 0)))

-- "Every oblique then: synthesis off: italic; the other side, zero included (a ≥ 0: x ≤ 0 down; a < 0: x ≥ 0 up); normal.
-- On, without a slant axis (`slnt`) at that width: normal; the rest by place. On, with one: no face."
unfoldable pub other_standing : Bool → Bool → ℕ → ℕ → Standing
other_standing false slant a s =
    cond (eqb s 1)
    (Up 3 0)
    (cond (eqb s 0) (Up 5 0) (cond (leb zero_angle a) (Down 4 (angle s)) (Up 4 (angle s))))
other_standing true false a s = cond (eqb s 0) (Up 3 0) (Up 4 0)
other_standing true true a s = Nowhere

-- the turn of that one of two groups which comes first where the test holds
abbrev pub turn_of : Bool → ℕ
turn_of first = cond first 1 2

-- What the next two sentences share: on the request's side, a group beyond the request, which comes first where `first` holds, and one between zero and it. Past
-- the bound of 14 or −14 the two change turns. Faces of neither stand as `rest` says.
unfoldable pub side_standing : Bool → Bool → Bool → (ℕ → Standing) → (ℕ → Standing) → Standing → Standing
side_standing first beyond between far near rest = cond beyond (far (turn_of first)) (cond between (near (turn_of (not first))) rest)

-- "Oblique a ≥ 14: x ≥ a up; 0 < x < a down. For 0 ≤ a < 14 these two groups change turns."
unfoldable pub right_standing : ℕ → ℕ → Standing → Standing
right_standing a s rest =
    side_standing (leb fourteen a) (oblique s && leb a (angle s)) (oblique s && ltb zero_angle (angle s)) (λ t. Up t (angle s)) (λ t. Down t (angle s)) rest

-- "Oblique −14 < a < 0: a < x < 0 up; x ≤ a down. For a ≤ −14 these change turns."
unfoldable pub left_standing : ℕ → ℕ → Standing → Standing
left_standing a s rest =
    side_standing (leb a minus_fourteen) (oblique s && leb (angle s) a) (oblique s && ltb (angle s) zero_angle) (λ t. Down t (angle s)) (λ t. Up t (angle s)) rest

-- an oblique request of zero or more, or under zero; "every oblique then" as `other_standing` says
unfoldable pub oblique_standing : Bool → Bool → ℕ → ℕ → Standing
oblique_standing synthesis slant a s =
    cond (leb zero_angle a) (right_standing a s (other_standing synthesis slant a s)) (left_standing a s (other_standing synthesis slant a s))

-- "The equal style is the first group, then these". `slant` says whether there is a slant axis at that width; w is the requested style.
unfoldable pub style_standing : Bool → Bool → ℕ → ℕ → Standing
style_standing synthesis slant w s =
    cond (eqb s w)
    (Up 0 0)
    (cond (eqb w 0)
    (normal_standing s)
    (cond (eqb w 1) (italic_standing s) (oblique_standing synthesis slant (angle w) s)))

-- "Weight w, among faces of the chosen style: equal first, earliest place. For 400 ≤ w ≤ 500: w to 500 up; below w down; above 500 up.
-- Under 400: below down; above up. Over 500: above up; below down."
unfoldable pub weight_standing : ℕ → ℕ → Standing
weight_standing w x =
    cond (eqb x w)
    (Up 0 x)
    (cond (ltb w four_hundred)
    (cond (ltb x w) (Down 1 x) (Up 2 x))
    (cond (ltb five_hundred w)
    (cond (ltb w x) (Up 1 x) (Down 2 x))
    (cond (ltb x w) (Down 2 x) (cond (leb x five_hundred) (Up 1 x) (Up 3 x)))))

-- each of the three rankings, whatever is requested; proved in proofs/Turns.antt
pub record OneGroupEach : Type 0 where
  pub widths : (w : ℕ) → OneGroupATurn (width_standing w)
  pub styles : (synthesis slant : Bool) (w : ℕ) → OneGroupATurn (style_standing synthesis slant w)
  pub weights : (w : ℕ) → OneGroupATurn (weight_standing w)

module _ (family : Family) where
  -- the face at place j has the percent of the one at place i; and the same style besides
  unfoldable pub same_percent : ℕ → ℕ → Bool
  same_percent i j = eqb (family.face j).percent (family.face i).percent

  unfoldable pub bears : ℕ → ℕ → Bool
  bears i j = same_percent i j && eqb (family.face j).style (family.face i).style

  -- "a slant axis (`slnt`) at that width"
  unfoldable pub slant_at : ℕ → Bool
  slant_at i = some (λ j. same_percent i j && (family.face j).slant) family.count

-- Demand 3: "an angle on its side (unstated counting as 14 in both; above zero for a request of zero or more, below zero for one under zero)"
unfoldable pub on_side : ℕ → ℕ → Bool
on_side w s =
    oblique s
    && cond (leb zero_angle (angle w)) (ltb zero_angle (angle s)) (ltb (angle s) zero_angle)

module _ (family : Family) (request : Request) where
  -- how the face at place i stands in width, in style as ranked at its percent, and in weight
  unfoldable pub in_width : ℕ → Standing
  in_width i = width_standing request.percent (family.face i).percent

  unfoldable pub in_style : ℕ → Standing
  in_style i = style_standing request.synthesis (slant_at family i) request.style (family.face i).style

  unfoldable pub in_weight : ℕ → Standing
  in_weight i = weight_standing request.weight (family.face i).weight

  -- "Styles of equal angle rank by the earliest face bearing them where up, by the latest where down; 'by place' ranks styles by their earliest face."
  unfoldable pub bearer_of : Standing → ℕ → ℕ
  bearer_of (Up t x) i = first (bears family i) family.count
  bearer_of (Down t x) i = last (bears family i) family.count
  bearer_of Nowhere i = 0

  unfoldable pub bearer : ℕ → ℕ
  bearer i = bearer_of (in_style i) i

  -- "A face in no group"
  unfoldable pub has_group : ℕ → Bool
  has_group i = grouped (in_style i)

  unfoldable pub width_before : ℕ → ℕ → Bool
  width_before i j = before (in_width i) 0 (in_width j) 0

  unfoldable pub style_before : ℕ → ℕ → Bool
  style_before i j = before (in_style i) (bearer i) (in_style j) (bearer j)

  unfoldable pub weight_before : ℕ → ℕ → Bool
  weight_before i j = before (in_weight i) i (in_weight j) j

  -- "Of two faces, the first difference in percent, in having a group, in style as ranked at that percent, in weight or in place, as ranked above, says which
  -- stands before; two of one percent without a group are unordered." Having a group is part of `before`, and so is place, as the end of the weight's ranking.
  unfoldable pub stands_before : ℕ → ℕ → Bool
  stands_before i j =
      width_before i j
      || (not (width_before j i)
      && (style_before i j || (not (style_before j i) && (has_group i && weight_before i j))))

  -- Demand 3: a chosen face "stands before every other face"; it is one that has a group.
  unfoldable pub stands_first : ℕ → Bool
  stands_first i = has_group i && every (λ j. eqb j i || stands_before i j) family.count

  -- The choice: "No face for an empty family; place 0 for one face. For two or more" the place that stands first. The count stands for no face.
  unfoldable pub choice : ℕ
  choice = cond (ltb family.count 2) 0 (first stands_first family.count)

  -- "the chosen width (the first-ranked percent)": the place of a face whose percent none stands before
  unfoldable pub chosen_width : ℕ
  chosen_width = first (λ i. every (λ j. not (width_before j i)) family.count) family.count

  -- Demand 3: "no face is chosen exactly when an oblique is requested with synthesis on, and at the chosen width no face has that style, none has an angle on its
  -- side .., and some face has a slant axis."
  unfoldable pub empty_case : Bool
  empty_case =
      oblique request.style
      && (request.synthesis
      && (not (some (λ j. same_percent family chosen_width j && eqb (family.face j).style request.style) family.count)
      && (not (some (λ j. same_percent family chosen_width j && on_side request.style (family.face j).style) family.count)
      && slant_at family chosen_width)))

-- Demand 3's first half, of a family of two or more faces: a chosen place is in the family and stands before every other; none is chosen, which the count stands
-- for, exactly in the empty case.
pub record Demand (family : Family) (request : Request) (r : ℕ) : Type 0 where
  pub within : r ≤ family.count
  pub stands : r < family.count → (j : ℕ) → j < family.count → (j ≡ r → ⊥) → stands_before family request r j ≡ true
  pub none : r ≡ family.count → empty_case family request ≡ true
  pub empty : empty_case family request ≡ true → r ≡ family.count

-- "The equal list is every place whose exact ratio, style and weight equal the chosen face's, in place order; empty where none is chosen." The count, as any
-- number not below it, stands for none.
unfoldable pub same_face : Face → Face → Bool
same_face a b = eqb a.ratio b.ratio && (eqb a.style b.style && eqb a.weight b.weight)

unfoldable pub equal_places : Family → ℕ → List ℕ
equal_places family chosen =
    cond (ltb chosen family.count) (places_below (λ i. same_face (family.face i) (family.face chosen)) family.count) []

-- The list as the code carries it: 64 places, those past its length zero.
unfoldable pub padded : List ℕ → List ℕ
padded xs = xs ++ replicate (64 - length xs) 0

unfoldable pub laid_out : List ℕ → Places
laid_out xs = record { places = padded xs; count = length xs }
