-- The one law of a scan, used for width, style and weight: the place in the least rank is the first of the things kept, or none of them has a group.
-- And what the three scans find is the choice.
use Prim.Native.Nat.{ℕ, zero, suc, ◌+◌, ◌-◌, ◌^◌, ◌≤◌, ◌<◌, min}
use mathlib.Core.Path.{◌≡◌, refl, sym, ◌∙◌, ap, subst}
use mathlib.Core.Bool.{Bool, true, false, ◌&&◌, cond}
use mathlib.Core.Logic.{◌⊎◌, inl, inr, ⊎_elim}
use native.Mathlib.Omega.{arith}
use lib.Dec.{eqb, ltb}
use borrow.Author.Tests.{eq-eqb, eqb-true, ltb-false}
use borrow.Author.Count.{below_more}
use Rattle.font.specs.First.{least_below}
use Rattle.matching.specs.declared.order.Request.{Request}
use Rattle.matching.specs.declared.rank.Standing.{Standing}
use Rattle.matching.specs.Rank.{grouped}
use Rattle.matching.specs.Packed.{packed, place_of, width_rank, style_rank, weight_rank, asks_slant, slants, largest, Scanned}
use Rattle.matching.specs.Below.{some}
use Rattle.matching.specs.Order.{Face, Family, width_standing, other_standing, oblique_standing, style_standing, weight_standing, same_percent, bears, slant_at, in_width, in_style, in_weight, has_group, choice}
use Rattle.matching.proofs.Below.{truth, clash, both, join, least_le, least_top, least_at, least_more}
use Rattle.matching.proofs.Ranks.{Sized, packed_below, ungrouped, place_back}
use Rattle.matching.proofs.Standings.{width_sized, width_grouped, weight_sized, weight_grouped, style_sized}
use Rattle.matching.proofs.Before.{Bounded, slant_same, bears_from, bears_parts, percent_same, same_percent_lem}
use Rattle.matching.proofs.Choice.{none_chosen, chosen}

-- a scan before its first turn, a turn of it, and the scan when it has passed every place
abbrev Passed : (ℕ → Face) → (Face → ℕ → ℕ) → (Face → ℕ) → ℕ → ℕ → Type 0
Passed face rank number i best = Scanned (record { count = i; face = face }) rank number best

module _ {face : ℕ → Face} {rank : Face → ℕ → ℕ} {number : Face → ℕ} where
  pub scan_none : Passed face rank number 0 (2 ^ 64 - 1)
  unfolding least_below
  scan_none = record { least = refl; short = λ j h. absurd (omega arith) }

  pub scan_more : {i best next lower : ℕ} → Passed face rank number i best → (next ≡ rank (face i) i) × (number (face i) < 2 ^ 32) → lower ≡ min best next
      → Passed face rank number (i + 1) lower
  scan_more {i} {best} {next} {lower} s e l = record {
    least = least_more (2 ^ 64 - 1) (λ j. rank (face j) j) i s.least e.0 l;
    short = below_more _ _ s.short e.1;
  }

  pub scan_all : {i n best : ℕ} → Passed face rank number i best → i ≡ n → Passed face rank number n best
  scan_all {i} {n} {best} s e = subst (λ (k : ℕ). Passed face rank number k best) e s

-- where a slant axis does not matter to the request, it is no matter whether there is one
slant_asked : (request : Request) (b : Bool) (s : ℕ)
    → style_standing request.synthesis (asks_slant request && b) request.style s ≡ style_standing request.synthesis b request.style s
unfolding asks_slant style_standing oblique_standing other_standing
slant_asked request b s = go request.synthesis (ltb 1 request.style) refl
  where
    small : (w : ℕ) → w ≤ 1 → style_standing true false w s ≡ style_standing true b w s
    small zero l = refl
    small (suc zero) l = refl
    small (suc (suc w)) l = absurd (omega arith)

    go : (on big : Bool) → ltb 1 request.style ≡ big → style_standing on ((on && big) && b) request.style s ≡ style_standing on b request.style s
    go false big e = refl
    go true true e = refl
    go true false e = small request.style (ltb-false 1 request.style e)

module _ (keep : ℕ → Bool) (st : ℕ → Standing) (n : ℕ) (most : n ≤ 64) (sized : (i : ℕ) → i < n → Sized (st i)) where
  abbrev rank : ℕ → ℕ
  rank i = cond (keep i) (packed (st i) i) (2 ^ 64 - 1)

  -- a rank below the last is of a thing kept, in a group
  kept : (i : ℕ) → i < n → rank i < 2 ^ 64 - 1 → (keep i ≡ true) × (grouped (st i) ≡ true)
  kept i h l = go (truth (keep i)) (truth (grouped (st i)))
    where
      go : (keep i ≡ true) ⊎ (keep i ≡ false) → (grouped (st i) ≡ true) ⊎ (grouped (st i) ≡ false) → (keep i ≡ true) × (grouped (st i) ≡ true)
      go (inr f) g = absurd (omega (arith, rw f at l))
      go (inl t) (inl g) = (t, g)
      go (inl t) (inr g) = absurd (omega (arith, rw t at l, ungrouped (st i) i g))

  rank_kept : (i : ℕ) → keep i ≡ true → rank i ≡ packed (st i) i
  rank_kept i e = rw e

  pub scan : (r place : ℕ) → r ≡ least_below (2 ^ 64 - 1) rank n → place ≡ place_of r → (r ≡ 2 ^ 64 - 1 → ⊥)
      → (place < n) × (keep place ≡ true) × (grouped (st place) ≡ true) × ((j : ℕ) → j < n → keep j ≡ true → packed (st place) place ≤ packed (st j) j)
  scan r place e q d = subst Found (sym here) (found.1, k.0, k.1, lowest)
    where
      Found : ℕ → Type 0
      Found p = (p < n) × (keep p ≡ true) × (grouped (st p) ≡ true) × ((j : ℕ) → j < n → keep j ≡ true → packed (st p) p ≤ packed (st j) j)

      below : least_below (2 ^ 64 - 1) rank n < 2 ^ 64 - 1
      below = omega (arith, least_top (2 ^ 64 - 1) rank n)

      found : (i : ℕ) × (i < n) × (rank i ≡ least_below (2 ^ 64 - 1) rank n)
      found = least_at (2 ^ 64 - 1) rank n below

      i : ℕ
      i = found.0

      k : (keep i ≡ true) × (grouped (st i) ≡ true)
      k = kept i found.1 (omega (arith, found.2, below))

      here : place ≡ i
      here =
          q ∙ ap place_of (e ∙ sym found.2 ∙ rank_kept i k.0)
          ∙ place_back (st i) i (sized i found.1) (omega (arith, found.1)) k.1

      lowest : (j : ℕ) → j < n → keep j ≡ true → packed (st i) i ≤ packed (st j) j
      lowest j h t = omega (arith, least_le (2 ^ 64 - 1) rank n j h, rank_kept j t, rank_kept i k.0, found.2)

  pub empty : (r : ℕ) → r ≡ least_below (2 ^ 64 - 1) rank n → r ≡ 2 ^ 64 - 1 → (j : ℕ) → j < n → keep j ≡ true → grouped (st j) ≡ false
  empty r e q j h t =
      ⊎_elim
      (λ (g : grouped (st j) ≡ true).
      absurd (omega (arith, least_le (2 ^ 64 - 1) rank n j h, rank_kept j t, packed_below (st j) j (sized j h) (omega arith) g)))
      (λ (f : grouped (st j) ≡ false). f)
      (truth (grouped (st j)))

-- the first in width: some face has a rank, so it is in the family
module _ (family : Family) (request : Request) (most : family.count ≤ 64) (percents : (i : ℕ) → i < family.count → (family.face i).percent < 2 ^ 32) (two : 2 ≤ family.count) (w : ℕ) (w-is : w ≡ least_below (2 ^ 64 - 1) (λ i. packed (width_standing request.percent (family.face i).percent) i) family.count) (lead : ℕ) (lead_is : lead ≡ place_of w) where
  keep_all : ℕ → Bool
  keep_all i = true

  abbrev in_width_lem : ℕ → Standing
  in_width_lem i = width_standing request.percent (family.face i).percent

  pub first_found : (lead < family.count) × ((j : ℕ) → j < family.count → packed (in_width_lem lead) lead ≤ packed (in_width_lem j) j)
  unfolding keep_all
  first_found =
      let r = scan keep_all in_width_lem family.count most (λ i h. width_sized request.percent (family.face i).percent (percents i h)) w lead w-is lead_is not_last in
      (r.0, λ j h. r.3 j h refl)
    where
      not_last : w ≡ 2 ^ 64 - 1 → ⊥
      not_last e =
          clash (width_grouped request.percent (family.face 0).percent)
          (empty keep_all in_width_lem family.count most (λ i h. width_sized request.percent (family.face i).percent (percents i h)) w w-is e 0 (omega arith) refl)

module _ (family : Family) (request : Request) (bounds : Bounded family) (two : 2 ≤ family.count) (w : ℕ) (w-is : w ≡ least_below (2 ^ 64 - 1) (λ i. packed (width_standing request.percent (family.face i).percent) i) family.count) (lead : ℕ) (lead_is : lead ≡ place_of w) where
  pub lead_found : (lead < family.count) × ((j : ℕ) → j < family.count → packed (width_standing request.percent (family.face lead).percent) lead ≤ packed (width_standing request.percent (family.face j).percent) j)
  lead_found = first_found family request bounds.most bounds.percents two w w-is lead lead_is

  pub leads : (j : ℕ) → j < family.count → packed (in_width family request lead) lead ≤ packed (in_width family request j) j
  unfolding in_width
  leads j h = lead_found.1 j h

  module _ (slant : Bool) (slant-is : slant ≡ (asks_slant request && some (λ i. eqb (family.face i).percent (family.face lead).percent && (family.face i).slant) family.count)) (s : ℕ) (s-is : s ≡ least_below (2 ^ 64 - 1) (λ i. cond (eqb (family.face i).percent (family.face lead).percent) (packed (style_standing request.synthesis slant request.style (family.face i).style) i) (2 ^ 64 - 1)) family.count) where
    -- the style: at the percent of `lead` the slant axes are those that the scan found
    abbrev at_width : ℕ → Bool
    at_width i = eqb (family.face i).percent (family.face lead).percent

    abbrev standing : ℕ → Standing
    standing i = style_standing request.synthesis slant request.style (family.face i).style

    style_here : (j : ℕ) → same_percent family lead j ≡ true → in_style family request j ≡ standing j
    unfolding in_style slant_at same_percent
    style_here j e =
        ap (λ (b : Bool). style_standing request.synthesis b request.style (family.face j).style) (slant_same family lead j e)
        ∙ sym (slant_asked request (slant_at family lead) (family.face j).style)
        ∙ ap (λ (b : Bool). style_standing request.synthesis b request.style (family.face j).style) (sym at_lead)
      where
        at_lead : slant ≡ (asks_slant request && slant_at family lead)
        at_lead = slant-is

    sized : (i : ℕ) → i < family.count → Sized (standing i)
    sized i h = style_sized request.synthesis slant request.style (family.face i).style (bounds.styles i h)

    pub none_grouped : s ≡ 2 ^ 64 - 1 → (j : ℕ) → j < family.count → same_percent family lead j ≡ true → has_group family request j ≡ false
    unfolding same_percent has_group
    none_grouped q j h e = ap grouped (style_here j e) ∙ empty at_width standing family.count bounds.most sized s s-is q j h e

    pub found_none : s ≡ 2 ^ 64 - 1 → family.count ≡ choice family request
    found_none q = sym (none_chosen family request bounds two lead lead_found.0 leads (none_grouped q))

    -- the first in style at the percent
    pub k_found : (s ≡ 2 ^ 64 - 1 → ⊥) → (k : ℕ) → k ≡ place_of s
        → (k < family.count) × (at_width k ≡ true) × (grouped (standing k) ≡ true) × ((j : ℕ) → j < family.count → at_width j ≡ true → packed (standing k) k ≤ packed (standing j) j)
    k_found some-style k k-is = scan at_width standing family.count bounds.most sized s k s-is k-is some-style

    module _ (weigh : (i : ℕ) → i < family.count → (family.face i).weight < 2 ^ 32) (some-style : s ≡ 2 ^ 64 - 1 → ⊥) (k : ℕ) (k-is : k ≡ place_of s) (v : ℕ) (v-is : v ≡ least_below (2 ^ 64 - 1) (λ i. cond (eqb (family.face i).percent (family.face lead).percent && eqb (family.face i).style (family.face k).style) (packed (weight_standing request.weight (family.face i).weight) i) (2 ^ 64 - 1)) family.count) where
      abbrev of_style : ℕ → Bool
      of_style i = eqb (family.face i).percent (family.face lead).percent && eqb (family.face i).style (family.face k).style

      abbrev weighing : ℕ → Standing
      weighing i = weight_standing request.weight (family.face i).weight

      bearer : (k < family.count) × (at_width k ≡ true) × (grouped (standing k) ≡ true) × ((j : ℕ) → j < family.count → at_width j ≡ true → packed (standing k) k ≤ packed (standing j) j)
      bearer = k_found some-style k k-is

      weights : (i : ℕ) → i < family.count → Sized (weighing i)
      weights i h = weight_sized request.weight (family.face i).weight (weigh i h)

      pub r_found : (place_of v < family.count) × (of_style (place_of v) ≡ true) × (grouped (weighing (place_of v)) ≡ true) × ((j : ℕ) → j < family.count → of_style j ≡ true → packed (weighing (place_of v)) (place_of v) ≤ packed (weighing j) j)
      r_found = scan of_style weighing family.count bounds.most weights v (place_of v) v-is refl not_last
        where
          not_last : v ≡ 2 ^ 64 - 1 → ⊥
          not_last e =
              clash (weight_grouped request.weight (family.face k).weight)
              (empty of_style weighing family.count bounds.most weights v v-is e k bearer.0 (join bearer.1 (eq-eqb (family.face k).style (family.face k).style refl)))

      pub found_one : place_of v ≡ choice family request
      unfolding same_percent has_group in_weight
      found_one =
          sym
          (chosen family request bounds two lead lead_found.0 leads weigh k bearer.0 bearer.1
          (ap grouped (style_here k bearer.1) ∙ bearer.2)
          (λ j h e. rw (style_here k bearer.1, style_here j e) (bearer.3 j h e))
          (place_of v) r_found.0 bearing
          (λ j h b.
          let t = bears_parts family k j b in
          r_found.3 j h
          (join
          (eq-eqb (family.face j).percent (family.face lead).percent (percent_same family k j t.0 ∙ eqb-true (family.face k).percent (family.face lead).percent bearer.1))
          (eq-eqb (family.face j).style (family.face k).style t.1))))
        where
          bearing : bears family k (place_of v) ≡ true
          bearing =
              let t = both (at_width (place_of v)) (eqb (family.face (place_of v)).style (family.face k).style) r_found.1 in
              bears_from family k (place_of v)
              (same_percent_lem family k (place_of v)
              (eqb-true (family.face (place_of v)).percent (family.face lead).percent t.0 ∙ sym (eqb-true (family.face k).percent (family.face lead).percent bearer.1)))
              (eqb-true (family.face (place_of v)).style (family.face k).style t.1)

-- what the three scans of a family lead to, by what each says
module _ (family : Family) (request : Request) (few : family.count ≤ 64) (two : 2 ≤ family.count) {w : ℕ} (width : Scanned family (width_rank request) largest w) {lead : ℕ} (lead_is : lead ≡ place_of w) where
  bounded : Bounded family
  bounded = record { most = few; percents = λ i l. omega (arith, width.short i l); styles = λ i l. omega (arith, width.short i l) }

  pub lead_in : lead < family.count
  lead_in = (first_found family request few bounded.percents two w width.least lead lead_is).0

  module _ {percent : ℕ} (percent-is : percent ≡ (family.face lead).percent) {slant : Bool} (slant-is : slant ≡ (asks_slant request && some (λ i. slants percent (family.face i)) family.count)) {s : ℕ} (style : Scanned family (style_rank request percent slant) largest s) where
    pub none_in : s ≡ 2 ^ 64 - 1 → family.count ≡ choice family request
    none_in q = found_none family request bounded two w width.least lead lead_is slant (rw percent-is at slant-is) s (rw percent-is at style.least) q

    module _ (some-style : s ≡ 2 ^ 64 - 1 → ⊥) {k : ℕ} (k-is : k ≡ place_of s) where
      pub bearer_in : k < family.count
      bearer_in = (k_found family request bounded two w width.least lead lead_is slant (rw percent-is at slant-is) s (rw percent-is at style.least) some-style k k-is).0

      module _ {n : ℕ} (n-is : n ≡ (family.face k).style) {v : ℕ} (weight : Scanned family (weight_rank request percent n) largest v) where
        weigh : (i : ℕ) → i < family.count → (family.face i).weight < 2 ^ 32
        weigh i l = omega (arith, width.short i l)

        pub chosen_in : place_of v < family.count
        chosen_in = (r_found family request bounded two w width.least lead lead_is slant (rw percent-is at slant-is) s (rw percent-is at style.least) weigh some-style k k-is v (rw (percent-is, n-is) at weight.least)).0

        pub chosen_is : place_of v ≡ choice family request
        chosen_is = found_one family request bounded two w width.least lead lead_is slant (rw percent-is at slant-is) s (rw percent-is at style.least) weigh some-style k k-is v (rw (percent-is, n-is) at weight.least)
