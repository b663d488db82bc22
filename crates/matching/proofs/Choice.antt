-- What three scans for the least rank find is the choice of section 4.
use Prim.Native.Nat.{ℕ, ◌^◌, ◌≤◌, ◌<◌}
use mathlib.Core.Path.{◌≡◌, sym, ◌∙◌, ap}
use mathlib.Core.Bool.{Bool, true, false, not, ◌&&◌, ◌||◌}
use mathlib.Core.Logic.{◌⊎◌, inl, inr, ⊎_elim}
use native.Mathlib.Omega.{arith}
use native.Mathlib.Decide.{ℕ_discrete}
use lib.Dec.{eqb}
use borrow.Author.Tests.{le-ltb, eq-eqb, eqb-true, ltb-true, ltb-false, not-true}
use Rattle.matching.specs.declared.order.Request.{Request}
use Rattle.matching.specs.declared.rank.Standing.{Standing}
use Rattle.matching.specs.declared.rank.Standing.TheVariants.{Up, Down, Nowhere}
use Rattle.matching.specs.Rank.{grouped}
use Rattle.matching.specs.Packed.{packed}
use Rattle.matching.specs.Below.{every}
use Rattle.matching.specs.Order.{Family, same_percent, bears, in_width, in_style, in_weight, bearer_of, bearer, has_group, width_before, style_before, weight_before, stands_before, stands_first, choice}
use Rattle.matching.proofs.Below.{truth, clash, both, either, join, or_right, every_at, every_all, first_found, first_none, first_only, last_found}
use Rattle.matching.proofs.Ranks.{Tri, low, same, high, tri, packed_below, ungrouped, same_place, level}
use Rattle.matching.proofs.Before.{Bounded, by_width, by_style, by_weight, percent_same, same_percent_lem, bears_parts, bears_from, style_same, bearer_same, bearer_bears, bears_self, width_fits, style_fits, bearer_fits, weight_fits, width_is, width_level, level_width, Ahead, ahead→stands, asymmetric, weighed}

module _ (family : Family) (request : Request) (bounds : Bounded family) where
  -- the place for a style is the least of its bearers' ranks
  bearer_least : (i : ℕ) → i < family.count → packed (in_style family request i) (bearer family request i) ≤ packed (in_style family request i) i
  unfolding bearer bearer_of
  bearer_least i h = go (in_style family request i)
    where
      go : (s : Standing) → packed s (bearer_of family request s i) ≤ packed s i
      go (Up t x) = omega (arith, (first_found (bears family i) family.count i h (bears_self family i)).2)
      go (Down t x) = omega (arith, (last_found (bears family i) family.count i h (bears_self family i)).2)
      go Nowhere = omega arith

  -- another place that stands first stands before this one
  pub first_before : (i j : ℕ) → j < family.count → (j ≡ i → ⊥) → stands_first family request i ≡ true → stands_before family request i j ≡ true
  unfolding stands_first
  first_before i j h d e =
      ⊎_elim
      (λ (q : eqb j i ≡ true). absurd (d (eqb-true j i q)))
      (λ (q : stands_before family request i j ≡ true). q)
      (either (eqb j i) (stands_before family request i j)
      (every_at (λ k. eqb k i || stands_before family request i k) family.count j
      (both (has_group family request i) (every (λ k. eqb k i || stands_before family request i k) family.count) e).1 h))

  -- `lead` is a place of least rank in width
  module _ (two : 2 ≤ family.count) (lead : ℕ) (within : lead < family.count) (leads : (j : ℕ) → j < family.count → packed (in_width family request lead) lead ≤ packed (in_width family request j) j) where
    pub least_width : (j : ℕ) → j < family.count → packed (in_width family request lead) 0 ≤ packed (in_width family request j) 0
    least_width j h =
        level (in_width family request lead) (in_width family request j) lead j (width_fits family request bounds lead within) (width_fits family request bounds j h)
        (omega (arith, bounds.most)) (omega (arith, bounds.most)) (leads j h)

    -- a place that stands first has the percent of `lead`
    pub first_width : (i : ℕ) → i < family.count → stands_first family request i ≡ true → same_percent family lead i ≡ true
    unfolding stands_before
    first_width i h e =
        elim (ℕ_discrete lead i) [
          | yes q ↦ same_percent_lem family lead i (ap (λ (k : ℕ). (family.face k).percent) (sym q))
          | no d ↦ go (first_before i lead within d e)
        ]
      where
        rest : Bool
        rest = style_before family request i lead || (not (style_before family request lead i) && (has_group family request i && weight_before family request i lead))

        go : width_before family request i lead || (not (width_before family request lead i) && rest) ≡ true → same_percent family lead i ≡ true
        go s =
            ⊎_elim
            (λ (w : width_before family request i lead ≡ true).
            absurd
            (omega (
              arith,
              least_width i h,
              ltb-true (packed (in_width family request i) 0) (packed (in_width family request lead) 0) (sym (width_is family request bounds i lead h within) ∙ w),
            )))
            (λ (w : not (width_before family request lead i) && rest ≡ true).
            width_level family request bounds lead i within h
            (omega (
              arith,
              least_width i h,
              ltb-false (packed (in_width family request lead) 0) (packed (in_width family request i) 0)
                  (sym (width_is family request bounds lead i within h)
                  ∙ not-true (width_before family request lead i) (both (not (width_before family request lead i)) rest w).0),
            )))
            (either (width_before family request i lead) (not (width_before family request lead i) && rest) s)

    -- where no face of that percent has a group, none is chosen
    pub none_chosen : ((j : ℕ) → j < family.count → same_percent family lead j ≡ true → has_group family request j ≡ false) → choice family request ≡ family.count
    unfolding choice stands_first
    none_chosen without =
        rw (le-ltb family.count 2 two)
        (first_none (stands_first family request) family.count not_first)
      where
        not_first : (i : ℕ) → i < family.count → stands_first family request i ≡ false
        not_first i h =
            ⊎_elim
            (λ (e : stands_first family request i ≡ true).
            absurd
            (clash
            (both (has_group family request i) (every (λ k. eqb k i || stands_before family request i k) family.count) e).0
            (without i h (first_width i h e))))
            (λ (f : stands_first family request i ≡ false). f)
            (truth (stands_first family request i))

    -- `best` is a place of least rank in style among those of that percent, and `r` one of least rank in weight among those of the style
    module _ (weights : (i : ℕ) → i < family.count → (family.face i).weight < 2 ^ 32) (best : ℕ) (best-in : best < family.count) (wide : same_percent family lead best ≡ true) (group : has_group family request best ≡ true) (bests : (j : ℕ) → j < family.count → same_percent family lead j ≡ true → packed (in_style family request best) best ≤ packed (in_style family request j) j) (r : ℕ) (r-in : r < family.count) (bearing : bears family best r ≡ true) (lightest : (j : ℕ) → j < family.count → bears family best j ≡ true → packed (in_weight family request r) r ≤ packed (in_weight family request j) j) where
      at_lead : (i j : ℕ) → same_percent family lead i ≡ true → same_percent family i j ≡ true → same_percent family lead j ≡ true
      at_lead i j e f = same_percent_lem family lead j (percent_same family i j f ∙ percent_same family lead i e)

      -- a face that bears a style stands in style as each bearer of it
      style_at_lem : (i b : ℕ) → bears family i b ≡ true → packed (in_style family request b) b ≡ packed (in_style family request i) b
      style_at_lem i b e = ap (λ (s : Standing). packed s b) (style_same family request i b e)

      fits64 : (i : ℕ) → i < family.count → i < 64
      fits64 i h = omega (arith, bounds.most)

      best_style : packed (in_style family request best) (bearer family request best) ≡ packed (in_style family request best) best
      best_style =
          let b = bearer_bears family request best best-in group in
          omega (
            arith,
            bearer_least best best-in,
            bests (bearer family request best) b.0 (at_lead best (bearer family request best) wide (bears_parts family best (bearer family request best) b.1).0),
            style_at_lem best (bearer family request best) b.1,
          )

      r_style : packed (in_style family request r) (bearer family request r) ≡ packed (in_style family request best) best
      r_style =
          (λ k. packed (style_same family request best r bearing k) (bearer_same family request best r bearing k)) ∙ best_style

      r_width : packed (in_width family request r) 0 ≡ packed (in_width family request lead) 0
      r_width = level_width family request bounds lead r (at_lead best r wide (bears_parts family best r bearing).0)

      r_group : has_group family request r ≡ true
      unfolding has_group
      r_group = ap grouped (style_same family request best r bearing) ∙ group

      -- every other face of that percent is not before it in style, and level only with the same style
      style_least : (j : ℕ) → j < family.count → same_percent family lead j ≡ true
          → (packed (in_style family request best) best < packed (in_style family request j) (bearer family request j)) ⊎ (bears family best j ≡ true)
      unfolding has_group
      style_least j h e = go (truth (grouped (in_style family request j)))
        where
          go : (grouped (in_style family request j) ≡ true) ⊎ (grouped (in_style family request j) ≡ false)
              → (packed (in_style family request best) best < packed (in_style family request j) (bearer family request j)) ⊎ (bears family best j ≡ true)
          go (inr f) =
              inl
              (omega (
                arith,
                packed_below (in_style family request best) best (style_fits family request bounds best best-in) (fits64 best best-in) group,
                ungrouped (in_style family request j) (bearer family request j) f,
              ))
          go (inl g) = level_or (tri (packed (in_style family request best) best) (packed (in_style family request j) (bearer family request j)))
            where
              b : ℕ
              b = bearer family request j

              b_in : (b < family.count) × (bears family j b ≡ true)
              b_in = bearer_bears family request j h g

              no_higher : packed (in_style family request best) best ≤ packed (in_style family request j) b
              no_higher =
                  omega (
                    arith,
                    bests b b_in.0 (at_lead j b e (bears_parts family j b b_in.1).0),
                    style_at_lem j b b_in.1,
                  )

              level_or : Tri (packed (in_style family request best) best) (packed (in_style family request j) b)
                  → (packed (in_style family request best) best < packed (in_style family request j) b) ⊎ (bears family best j ≡ true)
              level_or (low l) = inl l
              level_or (high l) = absurd (omega (arith, no_higher))
              level_or (same q) =
                  let p = bears_parts family j b b_in.1 in
                  let k = same_place (in_style family request best) (in_style family request j) best b (style_fits family request bounds best best-in) (style_fits family request bounds j h) (fits64 best best-in) (bearer_fits family request bounds j h) group q in
                  inr
                  (bears_from family best j
                  (same_percent_lem family best j (percent_same family lead j e ∙ sym (percent_same family lead best wide)))
                  (sym p.1 ∙ ap (λ (i : ℕ). (family.face i).style) (sym k)))

      ahead : (j : ℕ) → j < family.count → (r ≡ j → ⊥) → Ahead family request bounds weights r j
      ahead j h d = width (tri (packed (in_width family request lead) 0) (packed (in_width family request j) 0))
        where
          weight : packed (in_width family request r) 0 ≡ packed (in_width family request j) 0
              → packed (in_style family request r) (bearer family request r) ≡ packed (in_style family request j) (bearer family request j)
              → packed (in_weight family request r) r ≤ packed (in_weight family request j) j
              → Tri (packed (in_weight family request r) r) (packed (in_weight family request j) j) → Ahead family request bounds weights r j
          weight w s l (low k) = by_weight w s r_group k
          weight w s l (high k) = absurd (omega arith)
          weight w s l (same k) =
              absurd
              (d
              (same_place (in_weight family request r) (in_weight family request j) r j (weight_fits family request bounds weights r r-in) (weight_fits family request bounds weights j h) (fits64 r r-in) (fits64 j h) (weighed family request bounds weights r) k))

          style : packed (in_width family request r) 0 ≡ packed (in_width family request j) 0
              → (packed (in_style family request best) best < packed (in_style family request j) (bearer family request j)) ⊎ (bears family best j ≡ true)
              → Ahead family request bounds weights r j
          style w (inl l) = by_style w (omega (arith, r_style))
          style w (inr b) =
              weight w
              (r_style ∙ sym best_style
              ∙ sym (λ k. packed (style_same family request best j b k) (bearer_same family request best j b k)))
              (lightest j h b)
              (tri (packed (in_weight family request r) r) (packed (in_weight family request j) j))

          width : Tri (packed (in_width family request lead) 0) (packed (in_width family request j) 0) → Ahead family request bounds weights r j
          width (low l) = by_width (omega (arith, r_width))
          width (high l) = absurd (omega (arith, least_width j h))
          width (same e) = style (r_width ∙ e) (style_least j h (width_level family request bounds lead j within h e))

      pub stands_first_lem : stands_first family request r ≡ true
      unfolding stands_first
      stands_first_lem =
          join r_group
          (every_all (λ j. eqb j r || stands_before family request r j) family.count
          (λ j h.
          elim (ℕ_discrete j r) [
            | yes q ↦ rw (eq-eqb j r q)
            | no d ↦ or_right (eqb j r) (stands_before family request r j) (ahead→stands family request bounds weights r j r-in h (ahead j h (λ q. d (sym q))))
          ]))

      pub chosen : choice family request ≡ r
      unfolding choice
      chosen =
          rw (le-ltb family.count 2 two)
          (first_only (stands_first family request) family.count r r-in stands_first_lem
          (λ i h e.
          elim (ℕ_discrete i r) [
            | yes q ↦ q
            | no d ↦
                absurd
                (asymmetric family request bounds weights i r h r-in
                (first_before i r r-in (λ q. d (sym q)) e)
                (first_before r i h d stands_first_lem))
          ]))
