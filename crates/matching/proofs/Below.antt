-- Laws of "some", "every", "first", "last" and "least" of the places below a number.
use Prim.Native.Nat.{ℕ, zero, suc, ◌+◌, ◌≤◌, ◌<◌, min}
use mathlib.Core.Path.{◌≡◌, refl, sym, ◌∙◌, ap, subst}
use mathlib.Core.Bool.{Bool, true, false, ◌&&◌, ◌||◌, cond, true≢false}
use mathlib.Core.Logic.{◌⊎◌, inl, inr, ⊎_elim}
use native.Mathlib.Omega.{arith}
use native.Mathlib.Numerals.{add-one}
use native.Mathlib.Decide.{dec_lt}
use lib.Dec.{ltb}
use borrow.Author.Tests.{lt-ltb, le-ltb}
use Rattle.font.specs.First.{first, least_below}
use Rattle.font.proofs.First.{below_or_last}
use Rattle.matching.specs.Below.{some, every, last}

-- which of the two a Bool is
pub truth : (b : Bool) → (b ≡ true) ⊎ (b ≡ false)
truth true = inl refl
truth false = inr refl

pub clash : {b : Bool} → b ≡ true → b ≡ false → ⊥
clash p q = true≢false (sym p ∙ q)

pub both : (a b : Bool) → a && b ≡ true → (a ≡ true) × (b ≡ true)
both true b e = (refl, e)
both false b e = absurd (clash e refl)

pub either : (a b : Bool) → a || b ≡ true → (a ≡ true) ⊎ (b ≡ true)
either true b e = inl refl
either false b e = inr e

pub join : {a b : Bool} → a ≡ true → b ≡ true → a && b ≡ true
join {a} {b} p q = rw (p, q)

pub neither : (a b : Bool) → a || b ≡ false → (a ≡ false) × (b ≡ false)
neither true b e = absurd (clash refl e)
neither false b e = (refl, e)

pub or_right : (a b : Bool) → b ≡ true → a || b ≡ true
or_right true b e = refl
or_right false b e = e

module _ (p : ℕ → Bool) where
  pub some_at : (n i : ℕ) → i < n → p i ≡ true → some p n ≡ true
  unfolding some
  some_at zero i h e = absurd (omega arith)
  some_at (suc n) i h e =
      ⊎_elim
      (λ (l : i < n). rw (some_at n i l e))
      (λ (q : i ≡ n). or_right (some p n) (p n) (sym (ap p q) ∙ e))
      (below_or_last i n h)

  pub some_find : (n : ℕ) → some p n ≡ true → (i : ℕ) × (i < n) × (p i ≡ true)
  unfolding some
  some_find zero e = absurd (clash e refl)
  some_find (suc n) e =
      ⊎_elim
      (λ (a : some p n ≡ true). let r = some_find n a in (r.0, omega (arith, r.1), r.2))
      (λ (b : p n ≡ true). (n, omega arith, b))
      (either (some p n) (p n) e)

  pub some_more : (n : ℕ) → some p n ≡ false → p n ≡ false → some p (n + 1) ≡ false
  unfolding some
  some_more n e f = rw (add-one, e, f)

  pub some_next : (n : ℕ) → some p (n + 1) ≡ some p n || p n
  unfolding some
  some_next n = rw add-one

  pub every_at : (n i : ℕ) → every p n ≡ true → i < n → p i ≡ true
  unfolding every
  every_at zero i e h = absurd (omega arith)
  every_at (suc n) i e h =
      ⊎_elim
      (λ (l : i < n). every_at n i (both (every p n) (p n) e).0 l)
      (λ (q : i ≡ n). ap p q ∙ (both (every p n) (p n) e).1)
      (below_or_last i n h)

  pub every_all : (n : ℕ) → ((i : ℕ) → i < n → p i ≡ true) → every p n ≡ true
  unfolding every
  every_all zero h = refl
  every_all (suc n) h = join (every_all n (λ i l. h i (omega arith))) (h n (omega arith))

  -- none has the property and r is n, or r is the first that has it
  pub data Sought (n r : ℕ) : Type 0 where
    nobody : r ≡ n → ((i : ℕ) → i < n → p i ≡ false) → Sought n r
    at : r < n → p r ≡ true → ((i : ℕ) → i < r → p i ≡ false) → Sought n r

  sought_next : (n r : ℕ) → Sought n r → Sought (suc n) (cond (ltb r n) r (cond (p n) n (suc n)))
  sought_next n r (at h e f) = rw (lt-ltb r n h) (at (omega arith) e f)
  sought_next n r (nobody q f) = rw (le-ltb r n (omega arith)) (go (p n) refl)
    where
      go : (b : Bool) → p n ≡ b → Sought (suc n) (cond b n (suc n))
      go true e = at (omega arith) e f
      go false e =
          nobody refl
          (λ i h. ⊎_elim (λ (l : i < n). f i l) (λ (k : i ≡ n). ap p k ∙ e) (below_or_last i n h))

  pub sought : (n : ℕ) → Sought n (first p n)
  unfolding first
  sought zero = nobody refl (λ i h. absurd (omega arith))
  sought (suc n) = sought_next n (first p n) (sought n)

  pub first_found : (n i : ℕ) → i < n → p i ≡ true → (first p n < n) × (p (first p n) ≡ true) × (first p n ≤ i)
  first_found n i h e = go (sought n)
    where
      go : Sought n (first p n) → (first p n < n) × (p (first p n) ≡ true) × (first p n ≤ i)
      go (nobody q f) = absurd (clash e (f i h))
      go (at l t f) = (l, t, elim (dec_lt i (first p n)) [ yes k ↦ absurd (clash e (f i k)) | no k ↦ omega arith ])

  pub first_none : (n : ℕ) → ((i : ℕ) → i < n → p i ≡ false) → first p n ≡ n
  first_none n g = go (sought n)
    where
      go : Sought n (first p n) → first p n ≡ n
      go (nobody q f) = q
      go (at l t f) = absurd (clash t (g (first p n) l))

  pub first_is : (n k : ℕ) → k < n → p k ≡ true → ((i : ℕ) → i < k → p i ≡ false) → first p n ≡ k
  first_is n k h e f =
      let r = first_found n k h e in
      elim (dec_lt (first p n) k) [ yes l ↦ absurd (clash r.1 (f (first p n) l)) | no d ↦ omega (arith, r.2) ]

  -- where only one place has the property, it is the first
  pub first_only : (n k : ℕ) → k < n → p k ≡ true → ((i : ℕ) → i < n → p i ≡ true → i ≡ k) → first p n ≡ k
  first_only n k h e u = let r = first_found n k h e in u (first p n) r.0 r.1

  -- the last place that has the property
  pub last_found : (n i : ℕ) → i < n → p i ≡ true → (last p n < n) × (p (last p n) ≡ true) × (i ≤ last p n)
  unfolding last
  last_found zero i h e = absurd (omega arith)
  last_found (suc n) i h e = go (p n) refl (λ l. last_found n i l e)
    where
      before_n : p n ≡ false → i < n
      before_n f = ⊎_elim (λ (l : i < n). l) (λ (k : i ≡ n). absurd (clash e (ap p k ∙ f))) (below_or_last i n h)

      go : (b : Bool) → p n ≡ b
          → (i < n → (last p n < n) × (p (last p n) ≡ true) × (i ≤ last p n))
          → (cond b n (last p n) < suc n) × (p (cond b n (last p n)) ≡ true) × (i ≤ cond b n (last p n))
      go true t rest = (omega arith, t, omega arith)
      go false f rest = let r = rest (before_n f) in (omega (arith, r.0), r.1, r.2)

-- The one law of the scans: `least` of the ranks below n is at most each, and is one of them unless it is the top.
module _ (top : ℕ) (f : ℕ → ℕ) where
  pub least_le : (n i : ℕ) → i < n → least_below top f n ≤ f i
  unfolding least_below
  least_le zero i h = absurd (omega arith)
  least_le (suc n) i h =
      ⊎_elim
      (λ (l : i < n). omega (arith, least_le n i l))
      (λ (k : i ≡ n). subst (λ (j : ℕ). min (least_below top f n) (f n) ≤ f j) (sym k) (omega arith))
      (below_or_last i n h)

  pub least_top : (n : ℕ) → least_below top f n ≤ top
  unfolding least_below
  least_top zero = omega arith
  least_top (suc n) = omega (arith, least_top n)

  pub least_at : (n : ℕ) → least_below top f n < top → (i : ℕ) × (i < n) × (f i ≡ least_below top f n)
  unfolding least_below
  least_at zero h = absurd (omega arith)
  least_at (suc n) h =
      elim (dec_lt (f n) (least_below top f n)) [
        | yes l ↦ (n, omega arith, omega arith)
        | no g ↦ let r = least_at n (omega arith) in (r.0, omega (arith, r.1), omega (arith, r.2))
      ]

  -- a turn of the scan
  pub least_more : (i : ℕ) {best rank next : ℕ} → best ≡ least_below top f i → rank ≡ f i → next ≡ min best rank → next ≡ least_below top f (i + 1)
  unfolding least_below
  least_more i {best} {rank} {next} a b c = rw add-one (c ∙ (λ j. min (a j) (b j)))
