-- The standings of section 4 are of the sizes that the laws of ranks ask, and each carries its order number.
use Prim.Native.Nat.{ℕ, ◌^◌, ◌<◌}
use mathlib.Core.Path.{◌≡◌, refl}
use mathlib.Core.Bool.{Bool, true, false, not, ◌&&◌, cond}
use native.Mathlib.Omega.{arith}
use lib.Dec.{ltb, leb, eqb}
use Rattle.matching.specs.declared.rank.Standing.{Standing}
use Rattle.matching.specs.declared.rank.Standing.TheVariants.{Up, Down}
use Rattle.matching.specs.Rank.{grouped}
use Rattle.matching.specs.Order.{angle, oblique, fourteen, zero_angle, four_hundred, five_hundred, width_standing, normal_standing, italic_standing, other_standing, side_standing, right_standing, left_standing, oblique_standing, style_standing, weight_standing}
use Rattle.matching.proofs.Ranks.{Sized, order_in}
use Rattle.matching.proofs.Numbers.{fourteen_is}

-- what holds of both cases of a choice holds of the choice
pub pick : {A : Type 0} (P : A → Type 0) (b : Bool) {x y : A} → P x → P y → P (cond b x y)
pick P true h k = h
pick P false h k = k

pub alike : {A : Type 0} (b : Bool) (x : A) → cond b x x ≡ x
alike true x = refl
alike false x = refl

pub width_sized : (w x : ℕ) → x < 2 ^ 32 → Sized (width_standing w x)
unfolding width_standing
width_sized w x h =
    pick Sized (eqb x w) (omega arith)
    (pick Sized (leb w 100)
    (pick Sized (ltb x w) (omega arith) (omega arith))
    (pick Sized (ltb w x) (omega arith) (omega arith)))

pub width_order : (w x : ℕ) → order_in (width_standing w x) ≡ x
unfolding width_standing
width_order w x =
    pick (λ s. order_in s ≡ x) (eqb x w) refl
    (pick (λ s. order_in s ≡ x) (leb w 100)
    (pick (λ s. order_in s ≡ x) (ltb x w) refl refl)
    (pick (λ s. order_in s ≡ x) (ltb w x) refl refl))

pub width_grouped : (w x : ℕ) → grouped (width_standing w x) ≡ true
unfolding width_standing grouped
width_grouped w x =
    pick (λ s. grouped s ≡ true) (eqb x w) refl
    (pick (λ s. grouped s ≡ true) (leb w 100)
    (pick (λ s. grouped s ≡ true) (ltb x w) refl refl)
    (pick (λ s. grouped s ≡ true) (ltb w x) refl refl))

pub weight_sized : (w x : ℕ) → x < 2 ^ 32 → Sized (weight_standing w x)
unfolding weight_standing
weight_sized w x h =
    pick Sized (eqb x w) (omega arith)
    (pick Sized (ltb w four_hundred)
    (pick Sized (ltb x w) (omega arith) (omega arith))
    (pick Sized (ltb five_hundred w)
    (pick Sized (ltb w x) (omega arith) (omega arith))
    (pick Sized (ltb x w) (omega arith) (pick Sized (leb x five_hundred) (omega arith) (omega arith)))))

pub weight_grouped : (w x : ℕ) → grouped (weight_standing w x) ≡ true
unfolding weight_standing grouped
weight_grouped w x =
    pick (λ s. grouped s ≡ true) (eqb x w) refl
    (pick (λ s. grouped s ≡ true) (ltb w four_hundred)
    (pick (λ s. grouped s ≡ true) (ltb x w) refl refl)
    (pick (λ s. grouped s ≡ true) (ltb five_hundred w)
    (pick (λ s. grouped s ≡ true) (ltb w x) refl refl)
    (pick (λ s. grouped s ≡ true) (ltb x w) refl (pick (λ s. grouped s ≡ true) (leb x five_hundred) refl refl))))

pub angle_short : (s : ℕ) → s < 2 ^ 32 → angle s < 2 ^ 32
unfolding angle
angle_short s h = pick (λ x. x < 2 ^ 32) (eqb s 2) (omega (arith, fourteen_is)) h

module _ (s : ℕ) (h : angle s < 2 ^ 32) where
  normal_sized : Sized (normal_standing s)
  unfolding normal_standing
  normal_sized =
      pick Sized (eqb s 1) (omega arith) (pick Sized (leb zero_angle (angle s)) (omega arith) (omega arith))

  italic_sized : Sized (italic_standing s)
  unfolding italic_standing
  italic_sized =
      pick Sized (oblique s && leb fourteen (angle s)) (omega arith)
      (pick Sized (oblique s && ltb zero_angle (angle s)) (omega arith)
      (pick Sized (oblique s && ltb (angle s) zero_angle) (omega arith) (omega arith)))

  other_sized : (synthesis slant : Bool) (a : ℕ) → Sized (other_standing synthesis slant a s)
  unfolding other_standing
  other_sized false slant a =
      pick Sized (eqb s 1) (omega arith)
      (pick Sized (eqb s 0) (omega arith) (pick Sized (leb zero_angle a) (omega arith) (omega arith)))
  other_sized true false a = pick Sized (eqb s 0) (omega arith) (omega arith)
  other_sized true true a = tt

  -- a group of the turn 1 or 2
  side_sized : (first beyond between : Bool) (far near : ℕ → Standing) (rest : Standing)
      → ((t : ℕ) → t < 256 → Sized (far t)) → ((t : ℕ) → t < 256 → Sized (near t)) → Sized rest → Sized (side_standing first beyond between far near rest)
  unfolding side_standing
  side_sized first beyond between far near rest f n r =
      pick Sized beyond (pick (λ t. Sized (far t)) first (f 1 (omega arith)) (f 2 (omega arith)))
      (pick Sized between (pick (λ t. Sized (near t)) (not first) (n 1 (omega arith)) (n 2 (omega arith))) r)

  oblique_sized : (synthesis slant : Bool) (a : ℕ) → Sized (oblique_standing synthesis slant a s)
  unfolding oblique_standing right_standing left_standing
  oblique_sized synthesis slant a =
      pick Sized (leb zero_angle a)
      (side_sized _ _ _ (λ t. Up t (angle s)) (λ t. Down t (angle s)) _ (λ t l. (l, h)) (λ t l. (l, h)) (other_sized synthesis slant a))
      (side_sized _ _ _ (λ t. Down t (angle s)) (λ t. Up t (angle s)) _ (λ t l. (l, h)) (λ t l. (l, h)) (other_sized synthesis slant a))

pub style_sized : (synthesis slant : Bool) (w s : ℕ) → s < 2 ^ 32 → Sized (style_standing synthesis slant w s)
unfolding style_standing
style_sized synthesis slant w s h =
    pick Sized (eqb s w) (omega arith)
    (pick Sized (eqb w 0) (normal_sized s (angle_short s h))
    (pick Sized (eqb w 1) (italic_sized s (angle_short s h))
    (oblique_sized s (angle_short s h) synthesis slant (angle w))))
