-- Laws of `pick`, the n-th of a list or how far past its end n lies.
use Prim.Native.Nat.{ℕ, zero, suc, ◌+◌, ◌<◌}
use mathlib.Core.Path.{◌≡◌, refl, sym, ◌∙◌, ap}
use mathlib.Core.Bool.{Bool, true, false, cond}
use mathlib.Core.List.{List, [], ◌∷◌, ◌++◌, map}
use native.Mathlib.Omega.{arith}
use lib.Dec.{ltb}
use lib.ListN.{length, get_or, take}
use borrow.Author.Tests.{lt-ltb, le-ltb, ltb-true, ltb-false}
use Rattle.query.specs.Offers.{pick}

-- what is done with the answer can be done with each of its cases
pub pick_then : {A B C : Type 0} (g : B → C) (found : A → B) (past : ℕ → B) (xs : List A) (n : ℕ)
    → g (pick found past xs n) ≡ pick (λ x. g (found x)) (λ k. g (past k)) xs n
unfolding pick
pick_then g found past [] n = refl
pick_then g found past (x ∷ xs) zero = refl
pick_then g found past (x ∷ xs) (suc n) = pick_then g found past xs n

pub pick_map : {A B C : Type 0} (found : B → C) (past : ℕ → C) (h : A → B) (xs : List A) (n : ℕ)
    → pick found past (map h xs) n ≡ pick (λ x. found (h x)) past xs n
unfolding pick
pick_map found past h [] n = refl
pick_map found past h (x ∷ xs) zero = refl
pick_map found past h (x ∷ xs) (suc n) = pick_map found past h xs n

module _ {A B : Type 0} (found : A → B) (past : ℕ → B) where
  -- past the first list is in the second
  pub pick_append : (xs ys : List A) (n : ℕ) → pick found past (xs ++ ys) n ≡ pick found (pick found past ys) xs n
  unfolding pick
  pick_append [] ys n = refl
  pick_append (x ∷ xs) ys zero = refl
  pick_append (x ∷ xs) ys (suc n) = pick_append xs ys n

  pub pick_past : (xs : List A) (n k : ℕ) → n ≡ length xs + k → pick found past xs n ≡ past k
  unfolding pick
  pick_past [] n k e = let same : n ≡ k = omega arith in ap past same
  pick_past (x ∷ xs) zero k e = absurd (omega arith)
  pick_past (x ∷ xs) (suc n) k e = pick_past xs n k (omega arith)

  pub pick_in : (xs : List A) (n : ℕ) (d : A) → n < length xs → pick found past xs n ≡ found (get_or xs n d)
  unfolding pick
  pick_in [] n d l = absurd (omega arith)
  pick_in (x ∷ xs) zero d l = refl
  pick_in (x ∷ xs) (suc n) d l = pick_in xs n d (omega arith)

-- a list that is cut after m
module _ {A B : Type 0} (found : A → B) (past : B) where
  pub pick_take : (m : ℕ) (xs : List A) (n : ℕ) → pick found (λ k. past) (take m xs) n ≡ cond (ltb n m) (pick found (λ k. past) xs n) past
  unfolding pick
  pick_take zero xs n = sym (rw (le-ltb n 0 (omega arith)) refl)
  pick_take (suc m) [] n = go (ltb n (suc m))
    where
      go : (b : Bool) → past ≡ cond b past past
      go true = refl
      go false = refl
  pick_take (suc m) (x ∷ xs) zero = sym (rw (lt-ltb 0 (suc m) (omega arith)) refl)
  pick_take (suc m) (x ∷ xs) (suc n) = pick_take m xs n ∙ ap (λ b. cond b (pick found (λ k. past) xs n) past) (go (ltb n m) refl)
    where
      go : (b : Bool) → ltb n m ≡ b → ltb n m ≡ ltb (suc n) (suc m)
      go true e = e ∙ sym (lt-ltb (suc n) (suc m) (omega (arith, ltb-true n m e)))
      go false e = e ∙ sym (le-ltb (suc n) (suc m) (omega (arith, ltb-false n m e)))
