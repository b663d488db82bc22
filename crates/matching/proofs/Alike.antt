-- Two families of one count with the same faces below it have the same choice, the same equal list and the same default.
use Prim.Native.Nat.{ℕ, zero, suc, ◌<◌}
use mathlib.Core.Path.{◌≡◌, refl, ◌∙◌, ap}
use mathlib.Core.Bool.{Bool, true, false, not, ◌&&◌, ◌||◌, cond}
use mathlib.Core.List.{List, [], ◌∷◌, ◌++◌}
use native.Mathlib.Omega.{arith}
use lib.Dec.{ltb, eqb}
use borrow.Author.Tests.{ltb-true}
use Rattle.font.specs.First.{first}
use Rattle.font.specs.Attributes.{default_attributes}
use Rattle.matching.specs.declared.order.Request.{Request}
use Rattle.matching.specs.declared.rank.Standing.{Standing}
use Rattle.matching.specs.declared.rank.Standing.TheVariants.{Up, Down, Nowhere}
use Rattle.matching.specs.Rank.{before, grouped}
use Rattle.matching.specs.Below.{some, every, last, places_below}
use Rattle.matching.specs.Order.{Face, Family, width_standing, style_standing, weight_standing, same_percent, bears, slant_at, in_width, in_style, in_weight, bearer_of, bearer, has_group, width_before, style_before, weight_before, stands_before, stands_first, choice, same_face, equal_places}
use Rattle.matching.specs.Matching.{request_of, default_place}

-- where two properties agree below n, so do "some", "every", the first, the last and the places
module _ (p q : ℕ → Bool) where
  abbrev Agree : ℕ → Type 0
  Agree n = (j : ℕ) → j < n → p j ≡ q j

  some_agree : (n : ℕ) → Agree n → some p n ≡ some q n
  unfolding some
  some_agree zero h = refl
  some_agree (suc n) h = λ k. some_agree n (λ j l. h j (omega arith)) k || h n (omega arith) k

  every_agree : (n : ℕ) → Agree n → every p n ≡ every q n
  unfolding every
  every_agree zero h = refl
  every_agree (suc n) h = λ k. every_agree n (λ j l. h j (omega arith)) k && h n (omega arith) k

  first_agree : (n : ℕ) → Agree n → first p n ≡ first q n
  unfolding first
  first_agree zero h = refl
  first_agree (suc n) h =
      let e = first_agree n (λ j l. h j (omega arith)) in
      λ k. cond (ltb (e k) n) (e k) (cond (h n (omega arith) k) n (suc n))

  last_agree : (n : ℕ) → Agree n → last p n ≡ last q n
  unfolding last
  last_agree zero h = refl
  last_agree (suc n) h = λ k. cond (h n (omega arith) k) n (last_agree n (λ j l. h j (omega arith)) k)

  pub places_agree : (n : ℕ) → Agree n → places_below p n ≡ places_below q n
  unfolding places_below
  places_agree zero h = refl
  places_agree (suc n) h = λ k. places_agree n (λ j l. h j (omega arith)) k ++ cond (h n (omega arith) k) (n ∷ []) []

abbrev family : ℕ → (ℕ → Face) → Family
family n faces = record { count = n; face = faces }

module _ (n : ℕ) (a b : ℕ → Face) (same : (i : ℕ) → i < n → a i ≡ b i) where
  percent_agree : (i j : ℕ) → i < n → j < n → same_percent (family n a) i j ≡ same_percent (family n b) i j
  unfolding same_percent
  percent_agree i j h l = λ k. eqb (same j l k).percent (same i h k).percent

  bears_agree : (i j : ℕ) → i < n → j < n → bears (family n a) i j ≡ bears (family n b) i j
  unfolding bears
  bears_agree i j h l = λ k. percent_agree i j h l k && eqb (same j l k).style (same i h k).style

  slant_agree : (i : ℕ) → i < n → slant_at (family n a) i ≡ slant_at (family n b) i
  unfolding slant_at
  slant_agree i h =
      some_agree (λ j. same_percent (family n a) i j && (a j).slant) (λ j. same_percent (family n b) i j && (b j).slant) n
      (λ j l k. percent_agree i j h l k && (same j l k).slant)

  equal_agree : (chosen : ℕ) → equal_places (family n a) chosen ≡ equal_places (family n b) chosen
  unfolding equal_places
  equal_agree chosen = go (ltb chosen n) refl
    where
      listed : (ℕ → Face) → List ℕ
      listed faces = places_below (λ i. same_face (faces i) (faces chosen)) n

      go : (t : Bool) → ltb chosen n ≡ t → cond t (listed a) [] ≡ cond t (listed b) []
      go true e =
          places_agree (λ i. same_face (a i) (a chosen)) (λ i. same_face (b i) (b chosen)) n
          (λ j l k. same_face (same j l k) (same chosen (ltb-true chosen n e) k))
      go false e = refl

  module _ (request : Request) where
    width_agree : (i : ℕ) → i < n → in_width (family n a) request i ≡ in_width (family n b) request i
    unfolding in_width
    width_agree i h = λ k. width_standing request.percent (same i h k).percent

    style_agree : (i : ℕ) → i < n → in_style (family n a) request i ≡ in_style (family n b) request i
    unfolding in_style
    style_agree i h = λ k. style_standing request.synthesis (slant_agree i h k) request.style (same i h k).style

    weight_agree : (i : ℕ) → i < n → in_weight (family n a) request i ≡ in_weight (family n b) request i
    unfolding in_weight
    weight_agree i h = λ k. weight_standing request.weight (same i h k).weight

    bearer_agree : (i : ℕ) → i < n → bearer (family n a) request i ≡ bearer (family n b) request i
    unfolding bearer bearer_of
    bearer_agree i h =
        ap (λ (s : Standing). bearer_of (family n a) request s i) (style_agree i h) ∙ go (in_style (family n b) request i)
      where
        go : (s : Standing) → bearer_of (family n a) request s i ≡ bearer_of (family n b) request s i
        go (Up t x) = first_agree (bears (family n a) i) (bears (family n b) i) n (λ j l. bears_agree i j h l)
        go (Down t x) = last_agree (bears (family n a) i) (bears (family n b) i) n (λ j l. bears_agree i j h l)
        go Nowhere = refl

    group_agree : (i : ℕ) → i < n → has_group (family n a) request i ≡ has_group (family n b) request i
    unfolding has_group
    group_agree i h = ap grouped (style_agree i h)

    width_before_lem : (i j : ℕ) → i < n → j < n → width_before (family n a) request i j ≡ width_before (family n b) request i j
    unfolding width_before
    width_before_lem i j h l = λ k. before (width_agree i h k) 0 (width_agree j l k) 0

    style_before_lem : (i j : ℕ) → i < n → j < n → style_before (family n a) request i j ≡ style_before (family n b) request i j
    unfolding style_before
    style_before_lem i j h l = λ k. before (style_agree i h k) (bearer_agree i h k) (style_agree j l k) (bearer_agree j l k)

    weight_before_lem : (i j : ℕ) → i < n → j < n → weight_before (family n a) request i j ≡ weight_before (family n b) request i j
    unfolding weight_before
    weight_before_lem i j h l = λ k. before (weight_agree i h k) i (weight_agree j l k) j

    stands_agree : (i j : ℕ) → i < n → j < n → stands_before (family n a) request i j ≡ stands_before (family n b) request i j
    unfolding stands_before
    stands_agree i j h l =
        λ k.
        width_before_lem i j h l k
        || (not (width_before_lem j i l h k)
        && (style_before_lem i j h l k || (not (style_before_lem j i l h k) && (group_agree i h k && weight_before_lem i j h l k))))

    choice_agree : choice (family n a) request ≡ choice (family n b) request
    unfolding choice stands_first
    choice_agree =
        ap (cond (ltb n 2) 0)
        (first_agree (stands_first (family n a) request) (stands_first (family n b) request) n
        (λ i h k.
        group_agree i h k
        && every_agree (λ j. eqb j i || stands_before (family n a) request i j) (λ j. eqb j i || stands_before (family n b) request i j) n
        (λ j l m. eqb j i || stands_agree i j h l m) k))

module _ (f g : Family) (count : f.count ≡ g.count) (faces : (i : ℕ) → i < f.count → f.face i ≡ g.face i) where
  pub choice_same : (request : Request) → choice f request ≡ choice g request
  choice_same request =
      choice_agree f.count f.face g.face faces request ∙ ap (λ (n : ℕ). choice (family n g.face) request) count

  pub equal_same : (chosen : ℕ) → equal_places f chosen ≡ equal_places g chosen
  equal_same chosen =
      equal_agree f.count f.face g.face faces chosen ∙ ap (λ (n : ℕ). equal_places (family n g.face) chosen) count

  pub default_same : default_place f ≡ default_place g
  unfolding default_place
  default_same =
      let e = choice_same (request_of default_attributes false) in
      λ k. cond (ltb (e k) (count k)) (e k) 0
