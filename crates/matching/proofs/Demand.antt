-- Demand 3's first half: the choice of a family of two or more faces is in it and stands before every other, and is none exactly in the empty case.
use Prim.Native.Nat.{ℕ, ◌-◌, ◌^◌, ◌≤◌, ◌<◌}
use mathlib.Core.Path.{◌≡◌, refl, sym, ◌∙◌, ap}
use mathlib.Core.Bool.{Bool, true, false, not, ◌&&◌, cond}
use mathlib.Core.Logic.{◌⊎◌, inl, inr, ⊎_elim}
use native.Mathlib.Omega.{arith}
use native.Mathlib.Decide.{ℕ_discrete}
use lib.Dec.{ltb, leb, eqb}
use borrow.Author.Tests.{lt-ltb, le-ltb, le-leb, lt-leb, eq-eqb, ne_eqb, eqb-false, leb-true, leb-false, ltb-false, not-true, not-false}
use Rattle.font.specs.First.{first, least_below}
use Rattle.matching.specs.declared.order.Request.{Request}
use Rattle.matching.specs.declared.rank.Standing.{Standing}
use Rattle.matching.specs.declared.rank.Standing.TheVariants.{Up, Down}
use Rattle.matching.specs.Rank.{grouped}
use Rattle.matching.specs.Packed.{packed, place_of, asks_slant}
use Rattle.matching.specs.Below.{some, every}
use Rattle.matching.specs.Order.{Family, angle, oblique, zero_angle, fourteen, normal_standing, italic_standing, other_standing, turn_of, side_standing, right_standing, left_standing, oblique_standing, width_standing, style_standing, weight_standing, on_side, same_percent, slant_at, in_width, in_style, has_group, width_before, stands_first, choice, chosen_width, empty_case, Demand}
use Rattle.font.proofs.First.{some_fails, all_fail}
use Rattle.matching.proofs.Below.{truth, both, join, every_at, every_all, first_found, Sought, sought, nobody, at}
use Rattle.matching.proofs.Numbers.{zero_angle_lem, fourteen_is}
use Rattle.matching.proofs.Standings.{pick}
use Rattle.matching.proofs.Before.{Bounded, percent_same, same_percent_lem, slant_same, width_is, width_level}
use Rattle.matching.proofs.Choice.{least_width, first_before, none_chosen}
use Rattle.matching.proofs.Scans.{lead_found, leads, none_grouped, r_found, found_one}

-- a style is in no group exactly when an oblique is requested with synthesis on, there is a slant axis, and it is neither that style nor has an angle on its side
abbrev shut_out : Bool → Bool → ℕ → ℕ → Bool
shut_out synthesis slant w s = oblique w && (synthesis && (slant && (not (eqb s w) && not (on_side w s))))

-- two obliques of angle zero are one style
zero_style : (s : ℕ) → angle s ≡ zero_angle → s ≡ zero_angle
unfolding angle
zero_style s e = go (truth (eqb s 2))
  where
    go : (eqb s 2 ≡ true) ⊎ (eqb s 2 ≡ false) → s ≡ zero_angle
    go (inl t) = absurd (omega (arith, fourteen_is, zero_angle_lem, rw t at e))
    go (inr f) = rw f at e

other_group : (synthesis slant : Bool) (a s : ℕ) → grouped (other_standing synthesis slant a s) ≡ not (synthesis && slant)
unfolding grouped other_standing
other_group false slant a s =
    pick (λ z. grouped z ≡ true) (eqb s 1) refl
    (pick (λ z. grouped z ≡ true) (eqb s 0) refl (pick (λ z. grouped z ≡ true) (leb zero_angle a) refl refl))
other_group true false a s = pick (λ z. grouped z ≡ true) (eqb s 0) refl refl
other_group true true a s = refl

-- on the side, a style has a group; off it, only where nothing is shut out
module _ (synthesis slant : Bool) (w s : ℕ) (big : oblique w ≡ true) (differ : eqb s w ≡ false) where
  on : on_side w s ≡ true → not (shut_out synthesis slant w s) ≡ true
  on e = rw (big, differ, e) (go synthesis slant)
    where
      go : (a b : Bool) → not (a && (b && false)) ≡ true
      go false b = refl
      go true false = refl
      go true true = refl

  off : on_side w s ≡ false → not (shut_out synthesis slant w s) ≡ not (synthesis && slant)
  off e = rw (big, differ, e) (go synthesis slant)
    where
      go : (a b : Bool) → not (a && (b && true)) ≡ not (a && b)
      go false b = refl
      go true false = refl
      go true true = refl

  -- a style beyond the request or between zero and it is on the request's side, and no other is
  side_group : (first beyond between : Bool) (far near : ℕ → Standing)
      → ((t : ℕ) → grouped (far t) ≡ true) → ((t : ℕ) → grouped (near t) ≡ true) → (beyond ≡ true → between ≡ true) → on_side w s ≡ between
      → grouped (side_standing first beyond between far near (other_standing synthesis slant (angle w) s)) ≡ not (shut_out synthesis slant w s)
  unfolding side_standing
  side_group first true between far near f n k e = f (turn_of first) ∙ sym (on (e ∙ k refl))
  side_group first false true far near f n k e = n (turn_of (not first)) ∙ sym (on e)
  side_group first false false far near f n k e = other_group synthesis slant (angle w) s ∙ sym (off e)

  side_right : leb zero_angle (angle w) ≡ true → on_side w s ≡ oblique s && ltb zero_angle (angle s)
  unfolding on_side
  side_right r = rw r

  side_left : leb zero_angle (angle w) ≡ false → on_side w s ≡ oblique s && ltb (angle s) zero_angle
  unfolding on_side
  side_left r = rw r

  oblique_group : grouped (oblique_standing synthesis slant (angle w) s) ≡ not (shut_out synthesis slant w s)
  unfolding oblique_standing right_standing left_standing grouped
  oblique_group = go (truth (leb zero_angle (angle w)))
    where
      go : (leb zero_angle (angle w) ≡ true) ⊎ (leb zero_angle (angle w) ≡ false)
          → grouped (oblique_standing synthesis slant (angle w) s) ≡ not (shut_out synthesis slant w s)
      go (inl r) = rw r (side_group _ _ _ (λ t. Up t (angle s)) (λ t. Down t (angle s)) (λ t. refl) (λ t. refl) right (side_right r))
        where
          right : oblique s && leb (angle w) (angle s) ≡ true → oblique s && ltb zero_angle (angle s) ≡ true
          right a =
              let t = both (oblique s) (leb (angle w) (angle s)) a in
              let zero≤w : zero_angle ≤ angle w = leb-true zero_angle (angle w) r in
              let w≤s : angle w ≤ angle s = leb-true (angle w) (angle s) t.1 in
              join t.0 (⊎_elim (λ b. b)
              (λ (b : ltb zero_angle (angle s) ≡ false).
              let s≤zero : angle s ≤ zero_angle = ltb-false zero_angle (angle s) b in
              absurd (eqb-false s w differ (zero_style s (omega arith) ∙ sym (zero_style w (omega arith)))))
              (truth (ltb zero_angle (angle s))))
      go (inr r) = rw r (side_group _ _ _ (λ t. Down t (angle s)) (λ t. Up t (angle s)) (λ t. refl) (λ t. refl) left (side_left r))
        where
          left : oblique s && leb (angle s) (angle w) ≡ true → oblique s && ltb (angle s) zero_angle ≡ true
          left a =
              let t = both (oblique s) (leb (angle s) (angle w)) a in
              let w<zero : angle w < zero_angle = leb-false zero_angle (angle w) r in
              let s≤w : angle s ≤ angle w = leb-true (angle s) (angle w) t.1 in
              join t.0 (lt-ltb (angle s) zero_angle (omega arith))

normal_group : (s : ℕ) → grouped (normal_standing s) ≡ true
unfolding grouped normal_standing
normal_group s = pick (λ z. grouped z ≡ true) (eqb s 1) refl (pick (λ z. grouped z ≡ true) (leb zero_angle (angle s)) refl refl)

italic_group : (s : ℕ) → grouped (italic_standing s) ≡ true
unfolding grouped italic_standing
italic_group s =
    pick (λ z. grouped z ≡ true) (oblique s && leb fourteen (angle s)) refl
    (pick (λ z. grouped z ≡ true) (oblique s && ltb zero_angle (angle s)) refl
    (pick (λ z. grouped z ≡ true) (oblique s && ltb (angle s) zero_angle) refl refl))

-- a style that is not requested has a group unless it is shut out
style_group : (synthesis slant : Bool) (w s : ℕ) → grouped (style_standing synthesis slant w s) ≡ not (shut_out synthesis slant w s)
unfolding style_standing grouped oblique
style_group synthesis slant w s = go (truth (eqb s w)) (ℕ_discrete w 0) (ℕ_discrete w 1)
  where
    equal : (a b c : Bool) → true ≡ not (a && (b && (c && false)))
    equal false b c = refl
    equal true false c = refl
    equal true true false = refl
    equal true true true = refl

    big : (w ≡ 0 → ⊥) → (w ≡ 1 → ⊥) → leb 2 w ≡ true
    big d e = le-leb 2 w (omega arith)

    go : (eqb s w ≡ true) ⊎ (eqb s w ≡ false) → Dec (w ≡ 0) → Dec (w ≡ 1) → grouped (style_standing synthesis slant w s) ≡ not (shut_out synthesis slant w s)
    go (inl e) d₀ d₁ = rw e (equal (leb 2 w) synthesis slant)
    go (inr e) (yes z) d₁ = rw (e, eq-eqb w 0 z, lt-leb 2 w (omega arith)) (normal_group s)
    go (inr e) (no z) (yes o) = rw (e, ne_eqb w 0 z, eq-eqb w 1 o, lt-leb 2 w (omega arith)) (italic_group s)
    go (inr e) (no z) (no o) = rw (e, ne_eqb w 0 z, ne_eqb w 1 o) (rw e at (oblique_group synthesis slant w s (big z o) e))

module _ (family : Family) (request : Request) (bounds : Bounded family) (two : 2 ≤ family.count) where
  abbrev n : ℕ
  n = family.count

  -- a place of least rank in width
  w : ℕ
  w = least_below (2 ^ 64 - 1) (λ i. packed (width_standing request.percent (family.face i).percent) i) n

  lead : ℕ
  unfolding w
  lead = place_of w

  leading : (lead < n) × ((j : ℕ) → j < n → packed (in_width family request lead) lead ≤ packed (in_width family request j) j)
  unfolding lead w
  leading = ((lead_found family request bounds two w refl lead refl).0, leads family request bounds two w refl lead refl)

  lowest : (j : ℕ) → j < n → packed (in_width family request lead) 0 ≤ packed (in_width family request j) 0
  lowest = least_width family request bounds two lead leading.0 leading.1

  -- the chosen width is its percent
  at_chosen : same_percent family lead (chosen_width family request) ≡ true
  unfolding chosen_width
  at_chosen =
      width_level family request bounds lead c leading.0 found.0
      (omega (
        arith,
        lowest c found.0,
        ltb-false (packed (in_width family request lead) 0) (packed (in_width family request c) 0)
            (sym (width_is family request bounds lead c leading.0 found.0)
            ∙ not-true (width_before family request lead c) (every_at (λ j. not (width_before family request j c)) n lead found.1 leading.0)),
      ))
    where
      unpassed : ℕ → Bool
      unpassed i = every (λ j. not (width_before family request j i)) n

      c : ℕ
      c = first unpassed n

      lead_unpassed : unpassed lead ≡ true
      lead_unpassed =
          every_all (λ j. not (width_before family request j lead)) n
          (λ j h. rw (width_is family request bounds j lead h leading.0, le-ltb (packed (in_width family request j) 0) (packed (in_width family request lead) 0) (lowest j h)))

      found : (c < n) × (unpassed c ≡ true) × (c ≤ lead)
      found = first_found unpassed n lead leading.0 lead_unpassed

  -- percents equal to one are equal
  near : (i j : ℕ) → same_percent family lead i ≡ true → same_percent family lead j ≡ true → same_percent family i j ≡ true
  near i j e f = same_percent_lem family i j (percent_same family lead j f ∙ sym (percent_same family lead i e))

  onward : (i j : ℕ) → same_percent family lead i ≡ true → same_percent family i j ≡ true → same_percent family lead j ≡ true
  onward i j e f = same_percent_lem family lead j (percent_same family i j f ∙ percent_same family lead i e)

  abbrev c : ℕ
  c = chosen_width family request

  abbrev bearing : ℕ → Bool
  bearing j = same_percent family c j && eqb (family.face j).style request.style

  abbrev siding : ℕ → Bool
  siding j = same_percent family c j && on_side request.style (family.face j).style

  group_is : (j : ℕ) → has_group family request j ≡ not (shut_out request.synthesis (slant_at family j) request.style (family.face j).style)
  unfolding has_group in_style
  group_is j = style_group request.synthesis (slant_at family j) request.style (family.face j).style

  -- in the empty case no face of the chosen width has a group
  empty_ungrouped : empty_case family request ≡ true → (j : ℕ) → j < n → same_percent family lead j ≡ true → has_group family request j ≡ false
  unfolding empty_case
  empty_ungrouped e j h t =
      let a = both (oblique request.style) (request.synthesis && (not (some bearing n) && (not (some siding n) && slant_at family c))) e in
      let b = both request.synthesis (not (some bearing n) && (not (some siding n) && slant_at family c)) a.1 in
      let d = both (not (some bearing n)) (not (some siding n) && slant_at family c) b.1 in
      let f = both (not (some siding n)) (slant_at family c) d.1 in
      let here : same_percent family c j ≡ true = near c j at_chosen t in
      let bare : eqb (family.face j).style request.style ≡ false = rw here at (all_fail bearing n (not-true (some bearing n) d.0) j h) in
      let off-side : on_side request.style (family.face j).style ≡ false = rw here at (all_fail siding n (not-true (some siding n) f.0) j h) in
      let slanted : slant_at family j ≡ true = slant_same family lead j t ∙ sym (slant_same family lead c at_chosen) ∙ f.1 in
      group_is j ∙ rw (a.0, b.0, slanted, bare, off-side)

  -- a face that is in no group shows what shuts it out
  shown : (j : ℕ) → has_group family request j ≡ false
      → (oblique request.style ≡ true) × (request.synthesis ≡ true) × (slant_at family j ≡ true) × (eqb (family.face j).style request.style ≡ false) × (on_side request.style (family.face j).style ≡ false)
  shown j e =
      let t = not-false (shut_out request.synthesis (slant_at family j) request.style (family.face j).style) (sym (group_is j) ∙ e) in
      let a = both (oblique request.style) (request.synthesis && (slant_at family j && (not (eqb (family.face j).style request.style) && not (on_side request.style (family.face j).style)))) t in
      let b = both request.synthesis (slant_at family j && (not (eqb (family.face j).style request.style) && not (on_side request.style (family.face j).style))) a.1 in
      let d = both (slant_at family j) (not (eqb (family.face j).style request.style) && not (on_side request.style (family.face j).style)) b.1 in
      let f = both (not (eqb (family.face j).style request.style)) (not (on_side request.style (family.face j).style)) d.1 in (
        a.0,
        b.0,
        d.0,
        not-true (eqb (family.face j).style request.style) f.0,
        not-true (on_side request.style (family.face j).style) f.1,
      )

  ungrouped_empty : ((j : ℕ) → j < n → same_percent family lead j ≡ true → has_group family request j ≡ false) → empty_case family request ≡ true
  unfolding empty_case
  ungrouped_empty g =
      join mine.0
      (join mine.1
      (join (ap not (some_fails bearing n nobody_bears))
      (join (ap not (some_fails siding n nobody_sides)) (slant_same family lead c at_chosen ∙ mine.2))))
    where
      mine : (oblique request.style ≡ true) × (request.synthesis ≡ true) × (slant_at family lead ≡ true) × (eqb (family.face lead).style request.style ≡ false) × (on_side request.style (family.face lead).style ≡ false)
      mine = shown lead (g lead leading.0 (same_percent_lem family lead lead refl))

      nobody_bears : (j : ℕ) → j < n → bearing j ≡ false
      nobody_bears j h =
          ⊎_elim
          (λ (t : same_percent family c j ≡ true). rw (t, (shown j (g j h (onward c j at_chosen t))).3))
          (λ (f : same_percent family c j ≡ false). rw f)
          (truth (same_percent family c j))

      nobody_sides : (j : ℕ) → j < n → siding j ≡ false
      nobody_sides j h =
          ⊎_elim
          (λ (t : same_percent family c j ≡ true). rw (t, (shown j (g j h (onward c j at_chosen t))).4))
          (λ (f : same_percent family c j ≡ false). rw f)
          (truth (same_percent family c j))

  -- what the choice is: the first place that stands first
  picked : choice family request ≡ first (stands_first family request) n
  unfolding choice
  picked = rw (le-ltb n 2 two)

  pub demand : ((i : ℕ) → i < n → (family.face i).weight < 2 ^ 32) → Demand family request (choice family request)
  unfolding w lead slant_at same_percent
  demand weights = record {
    within = in_family;
    stands = λ l j h d. first_before family request bounds (choice family request) j h d (first_of l);
    none = λ q. ungrouped_empty (without q);
    empty = λ e. none_chosen family request bounds two lead leading.0 leading.1 (empty_ungrouped e);
  }
    where
      in_family : choice family request ≤ n
      in_family = go (sought (stands_first family request) n)
        where
          go : Sought (stands_first family request) n (first (stands_first family request) n) → choice family request ≤ n
          go (nobody q f) = omega (arith, picked)
          go (at l t f) = omega (arith, picked)

      first_of : choice family request < n → stands_first family request (choice family request) ≡ true
      first_of l = go (sought (stands_first family request) n)
        where
          go : Sought (stands_first family request) n (first (stands_first family request) n) → stands_first family request (choice family request) ≡ true
          go (nobody q f) = absurd (omega (arith, picked))
          go (at k t f) = ap (stands_first family request) picked ∙ t

      without : choice family request ≡ n → (j : ℕ) → j < n → same_percent family lead j ≡ true → has_group family request j ≡ false
      without q = go (ℕ_discrete style_least (2 ^ 64 - 1))
        where
          style_least : ℕ
          style_least =
              least_below (2 ^ 64 - 1)
              (λ i.
              cond (eqb (family.face i).percent (family.face lead).percent)
              (packed (style_standing request.synthesis (asks_slant request && slant_at family lead) request.style (family.face i).style) i)
              (2 ^ 64 - 1))
              n

          go : Dec (style_least ≡ 2 ^ 64 - 1) → (j : ℕ) → j < n → same_percent family lead j ≡ true → has_group family request j ≡ false
          go (yes e) = none_grouped family request bounds two w refl lead refl (asks_slant request && slant_at family lead) refl style_least refl e
          go (no d) =
              let k = place_of style_least in
              let v = least_below (2 ^ 64 - 1) (λ i. cond (eqb (family.face i).percent (family.face lead).percent && eqb (family.face i).style (family.face k).style) (packed (weight_standing request.weight (family.face i).weight) i) (2 ^ 64 - 1)) n in
              absurd
              (omega (
                arith,
                q,
                (r_found family request bounds two w refl lead refl (asks_slant request && slant_at family lead) refl style_least refl weights d k refl v refl).0,
                found_one family request bounds two w refl lead refl (asks_slant request && slant_at family lead) refl style_least refl weights d k refl v refl,
              ))
