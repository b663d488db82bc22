-- Those of places in order that are kept, and whether a number is among them: a family's held equal faces are places in order too.
use Prim.Native.Nat.{ℕ, zero, suc, ◌≤◌, ◌<◌}
use mathlib.Core.Path.{◌≡◌, refl, sym, ◌∙◌, ap}
use mathlib.Core.Bool.{Bool, true, false, ◌&&◌, ◌||◌, cond}
use mathlib.Core.List.{List, [], ◌∷◌, ◌++◌}
use native.Mathlib.Omega.{arith}
use lib.Dec.{ltb, eqb}
use lib.ListN.{length}
use borrow.Author.Tests.{lt-ltb, le-ltb, ltb-true, ltb-false, eq-eqb, ne_eqb}
use Rattle.matching.specs.Below.{places_below}
use Rattle.matching.specs.Order.{Family, same_face, equal_places}
use Rattle.matching.proofs.Ranks.{Tri, low, same, high, tri}
use Rattle.query.specs.Offers.{pick, keep, among}
use Rattle.query.proofs.Picked.{pick_append, pick_past}

-- ---- kept

keep_append : (h : ℕ → Bool) (xs ys : List ℕ) → keep h (xs ++ ys) ≡ keep h xs ++ keep h ys
unfolding keep
keep_append h [] ys = refl
keep_append h (x ∷ xs) ys = go (h x) (keep_append h xs ys)
  where
    go : (b : Bool) → keep h (xs ++ ys) ≡ keep h xs ++ keep h ys
        → cond b (x ∷ keep h (xs ++ ys)) (keep h (xs ++ ys)) ≡ cond b (x ∷ keep h xs) (keep h xs) ++ keep h ys
    go true e = ap (λ (s : List ℕ). x ∷ s) e
    go false e = e

pub keep_below : (h p : ℕ → Bool) (n : ℕ) → keep h (places_below p n) ≡ places_below (λ i. h i && p i) n
unfolding keep places_below
keep_below h p zero = refl
keep_below h p (suc n) =
    keep_append h (places_below p n) (cond (p n) (n ∷ []) []) ∙ (λ k. keep_below h p n k ++ one (h n) (p n) refl k)
  where
    one : (b c : Bool) → h n ≡ b → keep h (cond c (n ∷ []) []) ≡ cond (b && c) (n ∷ []) []
    one true true e = rw e refl
    one false true e = rw e refl
    one true false e = refl
    one false false e = refl

-- ---- the n-th of places in order

module _ {B : Type 0} (found : ℕ → B) (p : ℕ → Bool) (i n : ℕ) (here : p i ≡ true) (before : n ≡ length (places_below p i)) where
  pub nth_place : (past : ℕ → B) (m : ℕ) → i < m → pick found past (places_below p m) n ≡ found i
  unfolding places_below pick
  nth_place past zero l = absurd (omega arith)
  nth_place past (suc m) l =
      let after = pick found past (cond (p m) (m ∷ []) []) in
      pick_append found past (places_below p m) (cond (p m) (m ∷ []) []) n ∙ go (λ k. nth_place after m k) (tri i m)
    where
      go : (i < m → pick found (pick found past (cond (p m) (m ∷ []) [])) (places_below p m) n ≡ found i) → Tri i m
          → pick found (pick found past (cond (p m) (m ∷ []) [])) (places_below p m) n ≡ found i
      go earlier (low k) = earlier k
      go earlier (same e) =
          pick_past found (pick found past (cond (p m) (m ∷ []) [])) (places_below p m) n 0 (before ∙ ap (λ (k : ℕ). length (places_below p k)) e ∙ omega arith)
          ∙ ap (λ (k : ℕ). pick found past (cond (p k) (k ∷ []) []) 0) (sym e)
          ∙ ap (λ (b : Bool). pick found past (cond b (i ∷ []) []) 0) here
      go earlier (high k) = absurd (omega arith)

-- ---- among

among_append : (xs ys : List ℕ) (d : ℕ) → among (xs ++ ys) d ≡ among xs d || among ys d
unfolding among
among_append [] ys d = refl
among_append (x ∷ xs) ys d = go (eqb x d) (among_append xs ys d)
  where
    go : (b : Bool) → among (xs ++ ys) d ≡ among xs d || among ys d → b || among (xs ++ ys) d ≡ (b || among xs d) || among ys d
    go true e = refl
    go false e = e

pub among_below : (p : ℕ → Bool) (n d : ℕ) → among (places_below p n) d ≡ ltb d n && p d
unfolding among places_below
among_below p zero d = sym (rw (le-ltb d 0 (omega arith)) refl)
among_below p (suc n) d =
    among_append (places_below p n) (cond (p n) (n ∷ []) []) d
    ∙ (λ k. among_below p n d k || last (p n) (eqb n d) refl k)
    ∙ go (tri d n)
  where
    last : (b t : Bool) → eqb n d ≡ t → among (cond b (n ∷ []) []) d ≡ b && t
    last true true e = rw e refl
    last true false e = rw e refl
    last false t e = refl

    neither : (x y : Bool) → x || (y && false) ≡ x
    neither true y = refl
    neither false true = refl
    neither false false = refl

    both : (y : Bool) → y && true ≡ y
    both true = refl
    both false = refl

    go : Tri d n → (ltb d n && p d) || (p n && eqb n d) ≡ ltb d (suc n) && p d
    go (low l) = rw (lt-ltb d n l, lt-ltb d (suc n) (omega arith), ne_eqb n d (omega arith)) (neither (p d) (p n))
    go (same e) =
        rw (le-ltb d n (omega arith), lt-ltb d (suc n) (omega arith), eq-eqb n d (omega arith)) (both (p n) ∙ ap p (sym e))
    go (high l) = rw (le-ltb d n (omega arith), le-ltb d (suc n) (omega arith), ne_eqb n d (omega arith)) (neither false (p n))

-- ---- held equal faces

module _ (family : Family) (held : ℕ → Bool) (chosen : ℕ) where
  pub equal_kept : chosen < family.count
      → keep held (equal_places family chosen) ≡ places_below (λ i. held i && same_face (family.face i) (family.face chosen)) family.count
  unfolding equal_places
  equal_kept l =
      rw (lt-ltb chosen family.count l)
      (keep_below held (λ i. same_face (family.face i) (family.face chosen)) family.count)

  -- none is chosen
  pub none_kept : family.count ≤ chosen → keep held (equal_places family chosen) ≡ []
  unfolding equal_places keep
  none_kept l = rw (le-ltb chosen family.count l) refl

  never : (n : ℕ) → places_below (λ i. held i && false) n ≡ []
  unfolding places_below
  never zero = refl
  never (suc n) = λ k. never n k ++ cond (none (held n) k) (n ∷ []) []
    where
      none : (b : Bool) → b && false ≡ false
      none true = refl
      none false = refl

  -- so whether one is chosen or not
  pub chosen_kept : keep held (equal_places family chosen)
      ≡ places_below (λ i. held i && (ltb chosen family.count && same_face (family.face i) (family.face chosen))) family.count
  chosen_kept = go (ltb chosen family.count) refl
    where
      go : (b : Bool) → ltb chosen family.count ≡ b
          → keep held (equal_places family chosen) ≡ places_below (λ i. held i && (b && same_face (family.face i) (family.face chosen))) family.count
      go true e = equal_kept (ltb-true chosen family.count e)
      go false e = none_kept (ltb-false chosen family.count e) ∙ sym (never family.count)
