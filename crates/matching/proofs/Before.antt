-- Laws of section 4's relation "stands before", for a family of at most 64 faces whose numbers are of 32 bits, as every family by value is:
-- no face stands before itself, no two stand before each other, it is transitive, and of two different faces one stands before the other
-- unless they have one percent and neither has a group; then neither stands before the other.
use Prim.Native.Nat.{ℕ, ◌^◌, ◌≤◌, ◌<◌}
use mathlib.Core.Path.{◌≡◌, refl, sym, ◌∙◌, ap}
use mathlib.Core.Bool.{Bool, true, false, not, ◌&&◌, ◌||◌}
use mathlib.Core.Logic.{◌⊎◌, inl, inr, ⊎_elim}
use native.Mathlib.Omega.{arith}
use lib.Dec.{ltb, eqb}
use borrow.Author.Tests.{lt-ltb, le-ltb, eq-eqb, eqb-true}
use Rattle.font.specs.First.{first}
use Rattle.matching.specs.declared.order.Request.{Request}
use Rattle.matching.specs.declared.rank.Standing.{Standing}
use Rattle.matching.specs.declared.rank.Standing.TheVariants.{Up, Down, Nowhere}
use Rattle.matching.specs.Rank.{lower, before, grouped}
use Rattle.matching.specs.Packed.{packed}
use Rattle.matching.specs.Below.{some, last}
use Rattle.matching.specs.Order.{Family, width_standing, style_standing, same_percent, bears, slant_at, in_width, in_style, in_weight, bearer_of, bearer, has_group, width_before, style_before, weight_before, stands_before}
use Rattle.matching.proofs.Below.{truth, clash, both, join, first_found, last_found}
use Rattle.matching.proofs.Ranks.{Tri, low, same, high, tri, Sized, ranks, packed_below, ungrouped, same_place, same_order}
use Rattle.matching.proofs.Standings.{width_sized, width_order, weight_sized, weight_grouped, style_sized}

-- the first difference of three numbers, of which the third counts only under g
pub data Lex (w x s t v u : ℕ) (g : Bool) : Type 0 where
  by_width : w < x → Lex w x s t v u g
  by_style : w ≡ x → s < t → Lex w x s t v u g
  by_weight : w ≡ x → s ≡ t → g ≡ true → v < u → Lex w x s t v u g

abbrev lex_test : ℕ → ℕ → ℕ → ℕ → ℕ → ℕ → Bool → Bool
lex_test w x s t v u g = ltb w x || (not (ltb x w) && (ltb s t || (not (ltb t s) && (g && ltb v u))))

module _ (w x s t v u : ℕ) where
  lex_out : (g : Bool) → Lex w x s t v u g → lex_test w x s t v u g ≡ true
  lex_out g (by_width h) = rw (lt-ltb w x h)
  lex_out g (by_style h k) = rw (le-ltb w x (omega arith), le-ltb x w (omega arith), lt-ltb s t k)
  lex_out g (by_weight h k e l) =
      rw (le-ltb w x (omega arith), le-ltb x w (omega arith), le-ltb s t (omega arith), le-ltb t s (omega arith), e, lt-ltb v u l)

  lex_in : (g : Bool) → lex_test w x s t v u g ≡ true → Lex w x s t v u g
  lex_in g e = width (tri w x)
    where
      weight : (b : Bool) → g ≡ b → w ≡ x → s ≡ t → Tri v u → Lex w x s t v u g
      weight true q k l (low h) = by_weight k l q h
      weight true q k l (same h) =
          absurd (clash e (rw (le-ltb w x (omega arith), le-ltb x w (omega arith), le-ltb s t (omega arith), le-ltb t s (omega arith), q, le-ltb v u (omega arith))))
      weight true q k l (high h) =
          absurd (clash e (rw (le-ltb w x (omega arith), le-ltb x w (omega arith), le-ltb s t (omega arith), le-ltb t s (omega arith), q, le-ltb v u (omega arith))))
      weight false q k l o =
          absurd (clash e (rw (le-ltb w x (omega arith), le-ltb x w (omega arith), le-ltb s t (omega arith), le-ltb t s (omega arith), q)))

      style : w ≡ x → Tri s t → Lex w x s t v u g
      style k (low h) = by_style k h
      style k (same h) = weight g refl k h (tri v u)
      style k (high h) =
          absurd (clash e (rw (le-ltb w x (omega arith), le-ltb x w (omega arith), le-ltb s t (omega arith), lt-ltb t s h)))

      width : Tri w x → Lex w x s t v u g
      width (low h) = by_width h
      width (same h) = style h (tri s t)
      width (high h) = absurd (clash e (rw (le-ltb w x (omega arith), lt-ltb x w h)))

-- no three numbers differ from themselves; two ways round do not both hold; and one difference follows the other
lex_not : {w s v : ℕ} {g : Bool} → Lex w w s s v v g → ⊥
lex_not (by_width h) = omega arith
lex_not (by_style e h) = omega arith
lex_not (by_weight e f k h) = omega arith

lex_one_way : {w x s t v u : ℕ} {g h : Bool} → Lex w x s t v u g → Lex x w t s u v h → ⊥
lex_one_way (by_width a) (by_width b) = omega arith
lex_one_way (by_width a) (by_style b c) = omega arith
lex_one_way (by_width a) (by_weight b c d e) = omega arith
lex_one_way (by_style a b) (by_width c) = omega arith
lex_one_way (by_style a b) (by_style c d) = omega arith
lex_one_way (by_style a b) (by_weight c d e f) = omega arith
lex_one_way (by_weight a b c d) (by_width e) = omega arith
lex_one_way (by_weight a b c d) (by_style e f) = omega arith
lex_one_way (by_weight a b c d) (by_weight e f k l) = omega arith

lex_trans : {w x y s t r v u z : ℕ} {g h : Bool} → Lex w x s t v u g → Lex x y t r u z h → Lex w y s r v z g
lex_trans (by_width a) (by_width b) = by_width (omega arith)
lex_trans (by_width a) (by_style b c) = by_width (omega arith)
lex_trans (by_width a) (by_weight b c d e) = by_width (omega arith)
lex_trans (by_style a b) (by_width c) = by_width (omega arith)
lex_trans (by_style a b) (by_style c d) = by_style (a ∙ c) (omega arith)
lex_trans (by_style a b) (by_weight c d e f) = by_style (a ∙ c) (omega arith)
lex_trans (by_weight a b c d) (by_width e) = by_width (omega arith)
lex_trans (by_weight a b c d) (by_style e f) = by_style (a ∙ e) (omega arith)
lex_trans (by_weight a b c d) (by_weight e f k l) = by_weight (a ∙ e) (b ∙ f) c (omega arith)

module _ (family : Family) where
  pub percent_same : (i j : ℕ) → same_percent family i j ≡ true → (family.face j).percent ≡ (family.face i).percent
  unfolding same_percent
  percent_same i j e = eqb-true (family.face j).percent (family.face i).percent e

  pub same_percent_lem : (i j : ℕ) → (family.face j).percent ≡ (family.face i).percent → same_percent family i j ≡ true
  unfolding same_percent
  same_percent_lem i j e = eq-eqb (family.face j).percent (family.face i).percent e

  -- faces of one percent have the same slant axes
  pub slant_same : (i j : ℕ) → same_percent family i j ≡ true → slant_at family j ≡ slant_at family i
  unfolding slant_at same_percent
  slant_same i j e =
      ap (λ (p : ℕ). some (λ k. eqb (family.face k).percent p && (family.face k).slant) family.count)
      (percent_same i j e)

  -- a bearer has the percent and the style
  pub bears_parts : (i j : ℕ) → bears family i j ≡ true → (same_percent family i j ≡ true) × ((family.face j).style ≡ (family.face i).style)
  unfolding bears
  bears_parts i j e =
      let r = both (same_percent family i j) (eqb (family.face j).style (family.face i).style) e in
      (r.0, eqb-true (family.face j).style (family.face i).style r.1)

  pub bears_from : (i j : ℕ) → same_percent family i j ≡ true → (family.face j).style ≡ (family.face i).style → bears family i j ≡ true
  unfolding bears
  bears_from i j e f = join e (eq-eqb (family.face j).style (family.face i).style f)

  pub bears_self : (i : ℕ) → bears family i i ≡ true
  bears_self i = bears_from i i (same_percent_lem i i refl) refl

  -- faces that bear one style at one percent have the same bearers
  pub bears_same : (i j : ℕ) → bears family i j ≡ true → bears family j ≡ bears family i
  unfolding bears same_percent
  bears_same i j e =
      let r = bears_parts i j e in
      λ k m. eqb (family.face m).percent (percent_same i j r.0 k) && eqb (family.face m).style (r.1 k)

module _ (family : Family) (request : Request) where
  -- of one style besides, the same standing in style, and the same place for it
  pub style_same : (i j : ℕ) → bears family i j ≡ true → in_style family request j ≡ in_style family request i
  unfolding in_style
  style_same i j e =
      let r = bears_parts family i j e in
      λ k. style_standing request.synthesis (slant_same family i j r.0 k) request.style (r.1 k)

  pub bearer_same : (i j : ℕ) → bears family i j ≡ true → bearer family request j ≡ bearer family request i
  unfolding bearer bearer_of
  bearer_same i j e = go (in_style family request j) (in_style family request i) (style_same i j e)
    where
      same_bearer : (s : Standing) → bearer_of family request s j ≡ bearer_of family request s i
      same_bearer (Up t x) = ap (λ (p : ℕ → Bool). first p family.count) (bears_same family i j e)
      same_bearer (Down t x) = ap (λ (p : ℕ → Bool). last p family.count) (bears_same family i j e)
      same_bearer Nowhere = refl

      go : (s z : Standing) → s ≡ z → bearer_of family request s j ≡ bearer_of family request z i
      go s z q = ap (λ (y : Standing). bearer_of family request y j) q ∙ same_bearer z

  -- the place for a style is a face that bears it
  pub bearer_bears : (i : ℕ) → i < family.count → has_group family request i ≡ true → (bearer family request i < family.count) × (bears family i (bearer family request i) ≡ true)
  unfolding bearer bearer_of has_group grouped
  bearer_bears i h g = go (in_style family request i) g
    where
      go : (s : Standing) → grouped s ≡ true → (bearer_of family request s i < family.count) × (bears family i (bearer_of family request s i) ≡ true)
      go (Up t x) e = let r = first_found (bears family i) family.count i h (bears_self family i) in (r.0, r.1)
      go (Down t x) e = let r = last_found (bears family i) family.count i h (bears_self family i) in (r.0, r.1)
      go Nowhere e = absurd (clash e refl)

-- nothing is before itself, and what is in no group is before nothing
before_self : (s : Standing) (p : ℕ) → before s p s p ≡ false
unfolding before lower
before_self (Up t x) p = rw (le-ltb t t (omega arith), le-ltb x x (omega arith), le-ltb p p (omega arith), eq-eqb t t refl, eq-eqb x x refl)
before_self (Down t x) p = rw (le-ltb t t (omega arith), le-ltb x x (omega arith), le-ltb p p (omega arith), eq-eqb t t refl, eq-eqb x x refl)
before_self Nowhere p = refl

ungrouped_before : (s z : Standing) (p q : ℕ) → grouped s ≡ false → before s p z q ≡ false
unfolding before grouped
ungrouped_before (Up t x) z p q e = absurd (clash refl e)
ungrouped_before (Down t x) z p q e = absurd (clash refl e)
ungrouped_before Nowhere z p q e = refl

module _ (family : Family) (request : Request) where
  level_before : (i j : ℕ) → same_percent family i j ≡ true → width_before family request i j ≡ false
  unfolding width_before in_width
  level_before i j e = rw (percent_same family i j e, before_self (width_standing request.percent (family.face i).percent) 0)

  no_style_before : (i j : ℕ) → has_group family request i ≡ false → style_before family request i j ≡ false
  unfolding has_group style_before
  no_style_before i j g = ungrouped_before (in_style family request i) (in_style family request j) (bearer family request i) (bearer family request j) g

  -- a face without a group stands before none of its percent
  ungrouped_stands : (i j : ℕ) → same_percent family i j ≡ true → has_group family request i ≡ false → stands_before family request i j ≡ false
  unfolding stands_before
  ungrouped_stands i j e g =
      rw (level_before i j e, no_style_before i j g, g) (go (width_before family request j i) (style_before family request j i))
    where
      go : (b c : Bool) → (false || (not b && (false || (not c && false)))) ≡ false
      go true c = refl
      go false true = refl
      go false false = refl

  -- "two of one percent without a group are unordered"
  pub unordered : (i j : ℕ) → same_percent family i j ≡ true → has_group family request i ≡ false → has_group family request j ≡ false
      → (stands_before family request i j ≡ false) × (stands_before family request j i ≡ false)
  unordered i j e g f =
      (ungrouped_stands i j e g, ungrouped_stands j i (same_percent_lem family j i (sym (percent_same family i j e))) f)

-- The sizes that the laws of ranks ask: at most 64 faces, and numbers of 32 bits.
pub record Bounded (family : Family) : Type 0 where
  pub most : family.count ≤ 64
  pub percents : (i : ℕ) → i < family.count → (family.face i).percent < 2 ^ 32
  pub styles : (i : ℕ) → i < family.count → (family.face i).style < 2 ^ 32

module _ (family : Family) (request : Request) (bounds : Bounded family) where
  pub width_fits : (i : ℕ) → i < family.count → Sized (in_width family request i)
  unfolding in_width
  width_fits i h = width_sized request.percent (family.face i).percent (bounds.percents i h)

  pub style_fits : (i : ℕ) → i < family.count → Sized (in_style family request i)
  unfolding in_style
  style_fits i h = style_sized request.synthesis (slant_at family i) request.style (family.face i).style (bounds.styles i h)

  pub bearer_fits : (i : ℕ) → i < family.count → bearer family request i < 64
  unfolding bearer bearer_of
  bearer_fits i h = go (in_style family request i) refl
    where
      go : (s : Standing) → in_style family request i ≡ s → bearer_of family request s i < 64
      go (Up t x) e = omega (arith, (first_found (bears family i) family.count i h (bears_self family i)).0, bounds.most)
      go (Down t x) e = omega (arith, (last_found (bears family i) family.count i h (bears_self family i)).0, bounds.most)
      go Nowhere e = omega arith

  -- each of the three tests is a comparison of packed numbers
  pub width_is : (i j : ℕ) → i < family.count → j < family.count
      → width_before family request i j ≡ ltb (packed (in_width family request i) 0) (packed (in_width family request j) 0)
  unfolding width_before
  width_is i j h k = ranks (in_width family request i) (in_width family request j) 0 0 (width_fits i h) (width_fits j k) (omega arith) (omega arith)

  pub style_is : (i j : ℕ) → i < family.count → j < family.count
      → style_before family request i j
      ≡ ltb (packed (in_style family request i) (bearer family request i)) (packed (in_style family request j) (bearer family request j))
  unfolding style_before
  style_is i j h k =
      ranks (in_style family request i) (in_style family request j) (bearer family request i) (bearer family request j)
      (style_fits i h) (style_fits j k) (bearer_fits i h) (bearer_fits j k)

  -- equal in width is of one percent
  pub width_level : (i j : ℕ) → i < family.count → j < family.count
      → packed (in_width family request i) 0 ≡ packed (in_width family request j) 0 → same_percent family i j ≡ true
  unfolding in_width
  width_level i j h k e =
      same_percent_lem family i j
      (sym (width_order request.percent (family.face j).percent)
      ∙ sym (same_order (in_width family request i) (in_width family request j) 0 0 (width_fits i h) (width_fits j k) (omega arith) (omega arith) e)
      ∙ width_order request.percent (family.face i).percent)

  pub level_width : (i j : ℕ) → same_percent family i j ≡ true → packed (in_width family request j) 0 ≡ packed (in_width family request i) 0
  unfolding in_width
  level_width i j e = ap (λ (x : ℕ). packed (width_standing request.percent x) 0) (percent_same family i j e)

  module _ (weights : (i : ℕ) → i < family.count → (family.face i).weight < 2 ^ 32) where
    pub weight_fits : (i : ℕ) → i < family.count → Sized (in_weight family request i)
    unfolding in_weight
    weight_fits i h = weight_sized request.weight (family.face i).weight (weights i h)

    pub weight_is : (i j : ℕ) → i < family.count → j < family.count
        → weight_before family request i j ≡ ltb (packed (in_weight family request i) i) (packed (in_weight family request j) j)
    unfolding weight_before
    weight_is i j h k =
        ranks (in_weight family request i) (in_weight family request j) i j (weight_fits i h) (weight_fits j k) (omega (arith, bounds.most)) (omega (arith, bounds.most))

    abbrev pub Ahead : ℕ → ℕ → Type 0
    Ahead i j =
        Lex (packed (in_width family request i) 0) (packed (in_width family request j) 0)
        (packed (in_style family request i) (bearer family request i)) (packed (in_style family request j) (bearer family request j))
        (packed (in_weight family request i) i) (packed (in_weight family request j) j)
        (has_group family request i)

    stands_is : (i j : ℕ) → i < family.count → j < family.count
        → stands_before family request i j
        ≡ lex_test (packed (in_width family request i) 0) (packed (in_width family request j) 0)
        (packed (in_style family request i) (bearer family request i)) (packed (in_style family request j) (bearer family request j))
        (packed (in_weight family request i) i) (packed (in_weight family request j) j)
        (has_group family request i)
    unfolding stands_before
    stands_is i j h k = rw (width_is i j h k, width_is j i k h, style_is i j h k, style_is j i k h, weight_is i j h k)

    pub stands→ahead : (i j : ℕ) → i < family.count → j < family.count → stands_before family request i j ≡ true → Ahead i j
    stands→ahead i j h k e = lex_in _ _ _ _ _ _ (has_group family request i) (sym (stands_is i j h k) ∙ e)

    pub ahead→stands : (i j : ℕ) → i < family.count → j < family.count → Ahead i j → stands_before family request i j ≡ true
    ahead→stands i j h k a = stands_is i j h k ∙ lex_out _ _ _ _ _ _ (has_group family request i) a

    -- "no face stands before itself"
    pub irreflexive : (i : ℕ) → i < family.count → stands_before family request i i ≡ false
    irreflexive i h =
        ⊎_elim (λ (e : stands_before family request i i ≡ true). absurd (lex_not (stands→ahead i i h h e))) (λ (f : stands_before family request i i ≡ false). f)
        (truth (stands_before family request i i))

    -- "no two stand before each other"
    pub asymmetric : (i j : ℕ) → i < family.count → j < family.count
        → stands_before family request i j ≡ true → stands_before family request j i ≡ true → ⊥
    asymmetric i j h k e f = lex_one_way (stands→ahead i j h k e) (stands→ahead j i k h f)

    pub transitive : (i j k : ℕ) → i < family.count → j < family.count → k < family.count
        → stands_before family request i j ≡ true → stands_before family request j k ≡ true → stands_before family request i k ≡ true
    transitive i j k hi hj hk e f = ahead→stands i k hi hk (lex_trans (stands→ahead i j hi hj e) (stands→ahead j k hj hk f))

    pub weighed : (m : ℕ) → grouped (in_weight family request m) ≡ true
    unfolding in_weight
    weighed m = weight_grouped request.weight (family.face m).weight

    -- of two different faces of which one has a group, or of different percents, one stands before the other
    pub connected : (i j : ℕ) → i < family.count → j < family.count → (i ≡ j → ⊥)
        → (has_group family request i ≡ true) ⊎ ((has_group family request j ≡ true) ⊎ (same_percent family i j ≡ false))
        → (stands_before family request i j ≡ true) ⊎ (stands_before family request j i ≡ true)
    unfolding has_group
    connected i j h k d g = width (tri (packed (in_width family request i) 0) (packed (in_width family request j) 0))
      where
        Answer : Type 0
        Answer = (stands_before family request i j ≡ true) ⊎ (stands_before family request j i ≡ true)

        group_of : (m n : ℕ) → m < family.count → n < family.count → grouped (in_style family request m) ≡ true
            → packed (in_style family request m) (bearer family request m) ≡ packed (in_style family request n) (bearer family request n)
            → grouped (in_style family request n) ≡ true
        group_of m n hm hn e q =
            ⊎_elim (λ (t : grouped (in_style family request n) ≡ true). t)
            (λ (f : grouped (in_style family request n) ≡ false).
            absurd
            (omega (
              arith,
              packed_below (in_style family request m) (bearer family request m) (style_fits m hm) (bearer_fits m hm) e,
              ungrouped (in_style family request n) (bearer family request n) f,
            )))
            (truth (grouped (in_style family request n)))

        weight : packed (in_width family request i) 0 ≡ packed (in_width family request j) 0
            → packed (in_style family request i) (bearer family request i) ≡ packed (in_style family request j) (bearer family request j)
            → grouped (in_style family request i) ≡ true
            → Tri (packed (in_weight family request i) i) (packed (in_weight family request j) j) → Answer
        weight e f a (low l) = inl (ahead→stands i j h k (by_weight e f a l))
        weight e f a (high l) = inr (ahead→stands j i k h (by_weight (sym e) (sym f) (group_of i j h k a f) l))
        weight e f a (same l) =
            absurd
            (d
            (same_place (in_weight family request i) (in_weight family request j) i j (weight_fits i h) (weight_fits j k)
            (omega (arith, bounds.most)) (omega (arith, bounds.most)) (weighed i) l))

        style : packed (in_width family request i) 0 ≡ packed (in_width family request j) 0
            → Tri (packed (in_style family request i) (bearer family request i)) (packed (in_style family request j) (bearer family request j)) → Answer
        style e (low l) = inl (ahead→stands i j h k (by_style e l))
        style e (high l) = inr (ahead→stands j i k h (by_style (sym e) l))
        style e (same f) =
            weight e f
            (⊎_elim (λ (a : grouped (in_style family request i) ≡ true). a)
            (⊎_elim (λ (b : grouped (in_style family request j) ≡ true). group_of j i k h b (sym f))
            (λ (c : same_percent family i j ≡ false). absurd (clash (width_level i j h k e) c))) g)
            (tri (packed (in_weight family request i) i) (packed (in_weight family request j) j))

        width : Tri (packed (in_width family request i) 0) (packed (in_width family request j) 0) → Answer
        width (low l) = inl (ahead→stands i j h k (by_width l))
        width (high l) = inr (ahead→stands j i k h (by_width l))
        width (same e) = style e (tri (packed (in_style family request i) (bearer family request i)) (packed (in_style family request j) (bearer family request j)))
