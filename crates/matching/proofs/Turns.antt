-- No ranking of section 4 has two groups, an ascending and a descending one, of one turn.
use Prim.Native.Nat.{ℕ}
use mathlib.Core.Path.{◌≡◌, refl, subst}
use mathlib.Core.Bool.{Bool, true, false, not, ◌&&◌, ◌||◌, cond}
use lib.Dec.{ltb, leb, eqb}
use Rattle.matching.specs.declared.rank.Standing.{Standing}
use Rattle.matching.specs.declared.rank.Standing.TheVariants.{Up, Down, Nowhere}
use Rattle.matching.specs.Rank.{OneGroupATurn}
use Rattle.matching.specs.Order.{angle, oblique, zero_angle, fourteen, minus_fourteen, four_hundred, five_hundred, width_standing, normal_standing, italic_standing, other_standing, turn_of, side_standing, right_standing, left_standing, oblique_standing, style_standing, weight_standing, OneGroupEach}
use Rattle.matching.proofs.Below.{clash}
use Rattle.matching.proofs.Standings.{pick}

-- a group ascends or descends as the test of its turn says
abbrev Goes : (ℕ → Bool) → Standing → Type 0
Goes up (Up t x) = up t ≡ true
Goes up (Down t x) = up t ≡ false
Goes up Nowhere = Unit {0}

one_group : (standing : ℕ → Standing) (up : ℕ → Bool) → ((x : ℕ) → Goes up (standing x)) → OneGroupATurn standing
one_group standing up goes x y t u v p q = clash (subst (Goes up) p (goes x)) (subst (Goes up) q (goes y))

-- all turns but one ascend
abbrev all_but : ℕ → ℕ → Bool
all_but down t = not (eqb t down)

width_goes : (w x : ℕ) → Goes (all_but (turn_of (leb w 100))) (width_standing w x)
unfolding width_standing
width_goes w x = go (leb w 100)
  where
    go : (b : Bool) → Goes (all_but (turn_of b)) (cond (eqb x w) (Up 0 x) (cond b (cond (ltb x w) (Down 1 x) (Up 2 x)) (cond (ltb w x) (Up 1 x) (Down 2 x))))
    go true = pick (Goes (all_but 1)) (eqb x w) refl (pick (Goes (all_but 1)) (ltb x w) refl refl)
    go false = pick (Goes (all_but 2)) (eqb x w) refl (pick (Goes (all_but 2)) (ltb w x) refl refl)

weight_goes : (w x : ℕ) → Goes (all_but (turn_of (ltb w four_hundred))) (weight_standing w x)
unfolding weight_standing
weight_goes w x = go (ltb w four_hundred)
  where
    go : (b : Bool)
        → Goes (all_but (turn_of b))
        (cond (eqb x w) (Up 0 x)
        (cond b (cond (ltb x w) (Down 1 x) (Up 2 x))
        (cond (ltb five_hundred w) (cond (ltb w x) (Up 1 x) (Down 2 x)) (cond (ltb x w) (Down 2 x) (cond (leb x five_hundred) (Up 1 x) (Up 3 x))))))
    go true = pick (Goes (all_but 1)) (eqb x w) refl (pick (Goes (all_but 1)) (ltb x w) refl refl)
    go false =
        pick (Goes (all_but 2)) (eqb x w) refl
        (pick (Goes (all_but 2)) (ltb five_hundred w) (pick (Goes (all_but 2)) (ltb w x) refl refl)
        (pick (Goes (all_but 2)) (ltb x w) refl (pick (Goes (all_but 2)) (leb x five_hundred) refl refl)))

normal_goes : (s : ℕ) → Goes (all_but 3) (normal_standing s)
unfolding normal_standing
normal_goes s = pick (Goes (all_but 3)) (eqb s 1) refl (pick (Goes (all_but 3)) (leb zero_angle (angle s)) refl refl)

abbrev italic_up : ℕ → Bool
italic_up t = not (eqb t 2 || eqb t 3)

italic_goes : (s : ℕ) → Goes italic_up (italic_standing s)
unfolding italic_standing
italic_goes s =
    pick (Goes italic_up) (oblique s && leb fourteen (angle s)) refl
    (pick (Goes italic_up) (oblique s && ltb zero_angle (angle s)) refl
    (pick (Goes italic_up) (oblique s && ltb (angle s) zero_angle) refl refl))

-- an oblique: one group of its side descends, and with synthesis off the other side, turn 4, for a request of zero or more
abbrev oblique_up : Bool → Bool → ℕ → Bool
oblique_up first back t = not (eqb t (turn_of first) || (eqb t 4 && back))

turns : (first back : Bool)
    → (oblique_up first back 0 ≡ true) × (oblique_up first back 3 ≡ true) × (oblique_up first back 4 ≡ not back) × (oblique_up first back 5 ≡ true)
turns true back = (refl, refl, refl, refl)
turns false back = (refl, refl, refl, refl)

-- what comes after the side's two groups
other_goes : (first synthesis slant : Bool) (a s : ℕ) → Goes (oblique_up first (not synthesis && leb zero_angle a)) (other_standing synthesis slant a s)
unfolding other_standing
other_goes first false slant a s =
    let up = oblique_up first (leb zero_angle a) in
    let t = turns first (leb zero_angle a) in
    pick (Goes up) (eqb s 1) t.1 (pick (Goes up) (eqb s 0) t.3 (go (leb zero_angle a)))
  where
    go : (right : Bool) → Goes (oblique_up first right) (cond right (Down 4 (angle s)) (Up 4 (angle s)))
    go true = (turns first true).2
    go false = (turns first false).2
other_goes first true false a s = let t = turns first false in pick (Goes (oblique_up first false)) (eqb s 0) t.1 t.2
other_goes first true true a s = tt

-- the side's two: the one that descends has the turn of the test, and the one that ascends the other
descends : (first back : Bool) → oblique_up first back (turn_of first) ≡ false
descends true back = refl
descends false back = refl

ascends : (first back : Bool) → oblique_up first back (turn_of (not first)) ≡ true
ascends true back = refl
ascends false back = refl

ascends_not : (first back : Bool) → oblique_up (not first) back (turn_of first) ≡ true
ascends_not true back = refl
ascends_not false back = refl

side_goes : (up : ℕ → Bool) (first beyond between : Bool) (far near : ℕ → Standing) (rest : Standing)
    → Goes up (far (turn_of first)) → Goes up (near (turn_of (not first))) → Goes up rest → Goes up (side_standing first beyond between far near rest)
unfolding side_standing
side_goes up first beyond between far near rest f n r = pick (Goes up) beyond f (pick (Goes up) between n r)

module _ (synthesis slant : Bool) (a : ℕ) where
  abbrev back : Bool
  back = not synthesis && leb zero_angle a

  right_goes : (s : ℕ) → Goes (oblique_up (not (leb fourteen a)) back) (right_standing a s (other_standing synthesis slant a s))
  unfolding right_standing
  right_goes s =
      side_goes (oblique_up (not (leb fourteen a)) back) (leb fourteen a) _ _ (λ t. Up t (angle s)) (λ t. Down t (angle s)) _
      (ascends_not (leb fourteen a) back) (descends (not (leb fourteen a)) back) (other_goes (not (leb fourteen a)) synthesis slant a s)

  left_goes : (s : ℕ) → Goes (oblique_up (leb a minus_fourteen) back) (left_standing a s (other_standing synthesis slant a s))
  unfolding left_standing
  left_goes s =
      side_goes (oblique_up (leb a minus_fourteen) back) (leb a minus_fourteen) _ _ (λ t. Down t (angle s)) (λ t. Up t (angle s)) _
      (descends (leb a minus_fourteen) back) (ascends (leb a minus_fourteen) back) (other_goes (leb a minus_fourteen) synthesis slant a s)

-- the requested style has the turn 0
style_one : (synthesis slant : Bool) (w : ℕ) → OneGroupATurn (style_standing synthesis slant w)
unfolding style_standing oblique_standing
style_one synthesis slant w = go (eqb w 0) (eqb w 1) (leb zero_angle (angle w))
  where
    go : (normal italic right : Bool)
        → OneGroupATurn
        (λ s.
        cond (eqb s w) (Up 0 0)
        (cond normal (normal_standing s)
        (cond italic (italic_standing s)
        (cond right (right_standing (angle w) s (other_standing synthesis slant (angle w) s)) (left_standing (angle w) s (other_standing synthesis slant (angle w) s))))))
    go true italic right = one_group _ (all_but 3) (λ s. pick (Goes (all_but 3)) (eqb s w) refl (normal_goes s))
    go false true right = one_group _ italic_up (λ s. pick (Goes italic_up) (eqb s w) refl (italic_goes s))
    go false false true =
        let up = oblique_up (not (leb fourteen (angle w))) (back synthesis slant (angle w)) in
        one_group _ up (λ s. pick (Goes up) (eqb s w) (turns (not (leb fourteen (angle w))) (back synthesis slant (angle w))).0 (right_goes synthesis slant (angle w) s))
    go false false false =
        let up = oblique_up (leb (angle w) minus_fourteen) (back synthesis slant (angle w)) in
        one_group _ up (λ s. pick (Goes up) (eqb s w) (turns (leb (angle w) minus_fourteen) (back synthesis slant (angle w))).0 (left_goes synthesis slant (angle w) s))

pub one_group_each : OneGroupEach
one_group_each =
    record {
      widths = λ w. one_group (width_standing w) (all_but (turn_of (leb w 100))) (width_goes w);
      styles = style_one;
      weights = λ w. one_group (weight_standing w) (all_but (turn_of (ltb w four_hundred))) (weight_goes w);
    }
