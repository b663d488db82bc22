-- The one law of ranking, for an arbitrary order number: the packed number orders as section 4's relation `before` does. Width, style and weight use it.
use Prim.Native.Nat.{ℕ, ◌+◌, ◌-◌, ◌*◌, ◌/◌, ◌%◌, ◌^◌, ◌≤◌, ◌<◌}
use mathlib.Core.Path.{◌≡◌, refl, sym, ◌∙◌, ap}
use mathlib.Core.Bool.{true, false, ◌&&◌, ◌||◌}
use native.Mathlib.Omega.{arith}
use native.Mathlib.Nat.{mul-le-mul_right, suc-mul}
use native.Mathlib.Decide.{dec_lt, ℕ_discrete}
use lib.Dec.{ltb, leb, eqb}
use borrow.Author.Tests.{lt-ltb, le-ltb, le-leb, lt-leb, eq-eqb, ne_eqb}
use Rattle.matching.specs.declared.rank.Standing.{Standing}
use Rattle.matching.specs.declared.rank.Standing.TheVariants.{Up, Down, Nowhere}
use Rattle.matching.specs.Rank.{lower, before, grouped}
use Rattle.matching.specs.Packed.{packed, place_of}
use mathlib.Core.Logic.{◌⊎◌, inl, inr}
use Rattle.matching.proofs.Below.{clash, truth}

-- how two numbers stand
pub data Tri (a b : ℕ) : Type 0 where
  low : a < b → Tri a b
  same : a ≡ b → Tri a b
  high : b < a → Tri a b

pub tri : (a b : ℕ) → Tri a b
tri a b = elim (dec_lt a b) [ yes h ↦ low h | no h ↦ elim (ℕ_discrete a b) [ yes e ↦ same e | no d ↦ high (omega arith) ] ]

-- two digits of base k compare by the first in which they differ
pub digits : (k a b m n : ℕ) → m < k → n < k → (ltb a b || (eqb a b && ltb m n)) ≡ ltb (a * k + m) (b * k + n)
digits k a b m n hm hn = go (tri a b)
  where
    go : Tri a b → (ltb a b || (eqb a b && ltb m n)) ≡ ltb (a * k + m) (b * k + n)
    go (low h) = rw (lt-ltb a b h) (sym (lt-ltb (a * k + m) (b * k + n) (omega (arith, mul-le-mul_right k h, suc-mul a k))))
    go (high h) =
        rw (le-ltb a b (omega arith), ne_eqb a b (omega arith))
        (sym (le-ltb (a * k + m) (b * k + n) (omega (arith, mul-le-mul_right k h, suc-mul b k))))
    go (same e) = rw (e, le-ltb b b (omega arith), eq-eqb b b refl) (level (tri m n))
      where
        level : Tri m n → ltb m n ≡ ltb (b * k + m) (b * k + n)
        level (low h) = lt-ltb m n h ∙ sym (lt-ltb (b * k + m) (b * k + n) (omega arith))
        level (same h) = le-ltb m n (omega arith) ∙ sym (le-ltb (b * k + m) (b * k + n) (omega arith))
        level (high h) = le-ltb m n (omega arith) ∙ sym (le-ltb (b * k + m) (b * k + n) (omega arith))

-- what the code's types bound: a turn of 8 bits, an order number of 32
abbrev pub Sized : Standing → Type 0
Sized (Up t x) = (t < 256) × (x < 2 ^ 32)
Sized (Down t x) = (t < 256) × (x < 2 ^ 32)
Sized Nowhere = Unit {0}

-- a packed standing: the turn, whether it descends, and the order number with the place
up_is : (t x p : ℕ) → packed (Up t x) p ≡ t * 2 ^ 39 + (x * 64 + p)
up_is t x p = omega arith

down_is : (t x p : ℕ) → x < 2 ^ 32 → p < 64 → packed (Down t x) p ≡ t * 2 ^ 39 + (2 ^ 38 + (2 ^ 38 - 1 - (x * 64 + p)))
down_is t x p hx hp = omega arith

turned_up : (m n : ℕ) → m < 2 ^ 38 → n < 2 ^ 38 → ltb n m ≡ ltb (2 ^ 38 + (2 ^ 38 - 1 - m)) (2 ^ 38 + (2 ^ 38 - 1 - n))
turned_up m n hm hn = go (tri n m)
  where
    go : Tri n m → ltb n m ≡ ltb (2 ^ 38 + (2 ^ 38 - 1 - m)) (2 ^ 38 + (2 ^ 38 - 1 - n))
    go (low h) = lt-ltb n m h ∙ sym (lt-ltb (2 ^ 38 + (2 ^ 38 - 1 - m)) (2 ^ 38 + (2 ^ 38 - 1 - n)) (omega arith))
    go (same h) = le-ltb n m (omega arith) ∙ sym (le-ltb (2 ^ 38 + (2 ^ 38 - 1 - m)) (2 ^ 38 + (2 ^ 38 - 1 - n)) (omega arith))
    go (high h) = le-ltb n m (omega arith) ∙ sym (le-ltb (2 ^ 38 + (2 ^ 38 - 1 - m)) (2 ^ 38 + (2 ^ 38 - 1 - n)) (omega arith))

-- an ascending and a descending group
up_down : (t u m n : ℕ) → m < 2 ^ 38 → n < 2 ^ 38 → leb t u ≡ ltb (t * 2 ^ 39 + m) (u * 2 ^ 39 + (2 ^ 38 + n))
up_down t u m n hm hn = go (tri u t)
  where
    go : Tri u t → leb t u ≡ ltb (t * 2 ^ 39 + m) (u * 2 ^ 39 + (2 ^ 38 + n))
    go (low h) = lt-leb t u h ∙ sym (le-ltb (t * 2 ^ 39 + m) (u * 2 ^ 39 + (2 ^ 38 + n)) (omega arith))
    go (same h) = le-leb t u (omega arith) ∙ sym (lt-ltb (t * 2 ^ 39 + m) (u * 2 ^ 39 + (2 ^ 38 + n)) (omega arith))
    go (high h) = le-leb t u (omega arith) ∙ sym (lt-ltb (t * 2 ^ 39 + m) (u * 2 ^ 39 + (2 ^ 38 + n)) (omega arith))

down_up : (t u m n : ℕ) → m < 2 ^ 38 → n < 2 ^ 38 → ltb t u ≡ ltb (t * 2 ^ 39 + (2 ^ 38 + m)) (u * 2 ^ 39 + n)
down_up t u m n hm hn = go (tri t u)
  where
    go : Tri t u → ltb t u ≡ ltb (t * 2 ^ 39 + (2 ^ 38 + m)) (u * 2 ^ 39 + n)
    go (low h) = lt-ltb t u h ∙ sym (lt-ltb (t * 2 ^ 39 + (2 ^ 38 + m)) (u * 2 ^ 39 + n) (omega arith))
    go (same h) = le-ltb t u (omega arith) ∙ sym (le-ltb (t * 2 ^ 39 + (2 ^ 38 + m)) (u * 2 ^ 39 + n) (omega arith))
    go (high h) = le-ltb t u (omega arith) ∙ sym (le-ltb (t * 2 ^ 39 + (2 ^ 38 + m)) (u * 2 ^ 39 + n) (omega arith))

pub packed_below : (s : Standing) (p : ℕ) → Sized s → p < 64 → grouped s ≡ true → packed s p < 2 ^ 64 - 1
unfolding grouped
packed_below (Up t x) p h hp g = omega arith
packed_below (Down t x) p h hp g = omega arith
packed_below Nowhere p h hp g = absurd (clash g refl)

pub packed_most : (s : Standing) (p : ℕ) → Sized s → p < 64 → packed s p ≤ 2 ^ 64 - 1
packed_most (Up t x) p h hp = omega arith
packed_most (Down t x) p h hp = omega arith
packed_most Nowhere p h hp = omega arith

pub ranks : (s z : Standing) (p q : ℕ) → Sized s → Sized z → p < 64 → q < 64 → before s p z q ≡ ltb (packed s p) (packed z q)
unfolding before lower grouped
ranks (Up t x) (Up u y) p q hs hz hp hq =
    rw (digits 64 x y p q hp hq, up_is t x p, up_is u y q)
    (digits (2 ^ 39) t u (x * 64 + p) (y * 64 + q) (omega arith) (omega arith))
ranks (Up t x) (Down u y) p q hs hz hp hq =
    rw (up_is t x p, down_is u y q hz.1 hq) (up_down t u (x * 64 + p) (2 ^ 38 - 1 - (y * 64 + q)) (omega arith) (omega arith))
ranks (Up t x) Nowhere p q hs hz hp hq = sym (lt-ltb (packed (Up t x) p) (2 ^ 64 - 1) (packed_below (Up t x) p hs hp refl))
ranks (Down t x) (Up u y) p q hs hz hp hq =
    rw (up_is u y q, down_is t x p hs.1 hp) (down_up t u (2 ^ 38 - 1 - (x * 64 + p)) (y * 64 + q) (omega arith) (omega arith))
ranks (Down t x) (Down u y) p q hs hz hp hq =
    rw (
      digits 64 y x q p hq hp,
      turned_up (x * 64 + p) (y * 64 + q) (omega arith) (omega arith),
      down_is t x p hs.1 hp,
      down_is u y q hz.1 hq,
    )
    (digits (2 ^ 39) t u (2 ^ 38 + (2 ^ 38 - 1 - (x * 64 + p))) (2 ^ 38 + (2 ^ 38 - 1 - (y * 64 + q))) (omega arith) (omega arith))
ranks (Down t x) Nowhere p q hs hz hp hq = sym (lt-ltb (packed (Down t x) p) (2 ^ 64 - 1) (packed_below (Down t x) p hs hp refl))
ranks Nowhere z p q hs hz hp hq = sym (le-ltb (2 ^ 64 - 1) (packed z q) (packed_most z q hz hq))

-- the place comes back out of a packed number
pub place_back : (s : Standing) (p : ℕ) → Sized s → p < 64 → grouped s ≡ true → place_of (packed s p) ≡ p
unfolding place_of grouped
place_back (Up t x) p h hp g =
    rw (eq-eqb (packed (Up t x) p / 2 ^ 38 % 2) 0 (omega arith)) (omega arith)
place_back (Down t x) p h hp g =
    rw (ne_eqb (packed (Down t x) p / 2 ^ 38 % 2) 0 (omega arith)) (omega arith)
place_back Nowhere p h hp g = absurd (clash g refl)

pub ungrouped : (s : Standing) (p : ℕ) → grouped s ≡ false → packed s p ≡ 2 ^ 64 - 1
unfolding grouped
ungrouped (Up t x) p g = absurd (clash refl g)
ungrouped (Down t x) p g = absurd (clash refl g)
ungrouped Nowhere p g = refl

-- standings of equal packed number have the same place; a lower one is lower at place 0 too, or level there
pub same_place : (s z : Standing) (p q : ℕ) → Sized s → Sized z → p < 64 → q < 64 → grouped s ≡ true → packed s p ≡ packed z q → p ≡ q
same_place s z p q hs hz hp hq g e = go (truth (grouped z))
  where
    go : (grouped z ≡ true) ⊎ (grouped z ≡ false) → p ≡ q
    go (inl k) = sym (place_back s p hs hp g) ∙ ap place_of e ∙ place_back z q hz hq k
    go (inr k) = absurd (omega (arith, packed_below s p hs hp g, ungrouped z q k))

pub level : (s z : Standing) (p q : ℕ) → Sized s → Sized z → p < 64 → q < 64 → packed s p ≤ packed z q → packed s 0 ≤ packed z 0
level (Up t x) (Up u y) p q hs hz hp hq h = omega arith
level (Up t x) (Down u y) p q hs hz hp hq h = omega arith
level (Up t x) Nowhere p q hs hz hp hq h = omega arith
level (Down t x) (Up u y) p q hs hz hp hq h = omega arith
level (Down t x) (Down u y) p q hs hz hp hq h = omega arith
level (Down t x) Nowhere p q hs hz hp hq h = omega arith
level Nowhere (Up u y) p q hs hz hp hq h = absurd (omega arith)
level Nowhere (Down u y) p q hs hz hp hq h = absurd (omega arith)
level Nowhere Nowhere p q hs hz hp hq h = omega arith

-- the order number in a standing, and that it too comes back out of a packed number
abbrev pub order_in : Standing → ℕ
order_in (Up t x) = x
order_in (Down t x) = x
order_in Nowhere = 0

pub same_order : (s z : Standing) (p q : ℕ) → Sized s → Sized z → p < 64 → q < 64 → packed s p ≡ packed z q → order_in s ≡ order_in z
same_order (Up t x) (Up u y) p q hs hz hp hq e = go (tri t u)
  where
    go : Tri t u → x ≡ y
    go (low h) = absurd (omega arith)
    go (same h) = omega arith
    go (high h) = absurd (omega arith)
same_order (Up t x) (Down u y) p q hs hz hp hq e = absurd (omega arith)
same_order (Up t x) Nowhere p q hs hz hp hq e = absurd (omega arith)
same_order (Down t x) (Up u y) p q hs hz hp hq e = absurd (omega arith)
same_order (Down t x) (Down u y) p q hs hz hp hq e = go (tri t u)
  where
    go : Tri t u → x ≡ y
    go (low h) = absurd (omega arith)
    go (same h) = omega arith
    go (high h) = absurd (omega arith)
same_order (Down t x) Nowhere p q hs hz hp hq e = absurd (omega arith)
same_order Nowhere (Up u y) p q hs hz hp hq e = absurd (omega arith)
same_order Nowhere (Down u y) p q hs hz hp hq e = absurd (omega arith)
same_order Nowhere Nowhere p q hs hz hp hq e = refl
