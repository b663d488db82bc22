-- Laws of `least_below`, and of the first thing that has the least value, for a loop that keeps both.
use Prim.Native.Nat.{ℕ, zero, suc, ◌+◌, ◌≤◌, ◌<◌, min}
use mathlib.Core.Path.{◌≡◌, refl, sym, ◌∙◌, ap}
use mathlib.Core.Bool.{Bool, true, false, ◌||◌}
use mathlib.Core.Logic.{⊎_elim}
use native.Mathlib.Omega.{arith}
use native.Mathlib.Decide.{le_ind}
use native.Mathlib.Numerals.{add-one}
use lib.Dec.{ltb, eqb}
use borrow.Author.Tests.{lt-ltb, le-ltb, ltb-true, ltb-false, eqb-true, eqb-false, eq-eqb, ne_eqb}
use Rattle.font.specs.First.{first, some, least_below, first_least}
use Rattle.font.proofs.First.{none, keep, found, holds, before, below_or_last}

module _ (top : ℕ) (f : ℕ → ℕ) where
  below_top : (n : ℕ) → least_below top f n ≤ top
  unfolding least_below
  below_top zero = omega arith
  below_top (suc n) = omega (arith, below_top n)

  -- it is at most each value
  pub at_most : (n k : ℕ) → k < n → least_below top f n ≤ f k
  unfolding least_below
  at_most zero k l = let z : k < 0 = l in omega arith
  at_most (suc n) k l =
      ⊎_elim (λ h. omega (arith, at_most n k h)) (λ h. omega (arith, ap f h)) (below_or_last k n l)

  -- each number that is at most the top and each value is at most it
  at_least : (n x : ℕ) → x ≤ top → ((k : ℕ) → k < n → x ≤ f k) → x ≤ least_below top f n
  unfolding least_below
  at_least zero x t h = t
  at_least (suc n) x t h = omega (arith, at_least n x t (λ k l. h k (omega arith)), h n (omega arith))

  -- What a loop knows at its head: the least value c so far, and, where it is below the top, the first thing b that has it.
  pub record Best (n c b : ℕ) : Type 0 where
    pub least : c ≡ least_below top f n
    pub before : c < top → b < n
    pub first_of : c < top → b ≡ first (λ k. eqb (f k) c) n

  pub best_start : (b : ℕ) → Best 0 top b
  unfolding least_below
  best_start b = record { least = refl; before = λ h. omega arith; first_of = λ h. omega arith }

  -- a value below the least so far is the first of its kind
  pub best_new : (n c b : ℕ) → Best n c b → f n < c → Best (n + 1) (f n) n
  unfolding least_below
  best_new n c b h l =
      record {
        least = rw (add-one n) (omega (arith, h.least));
        before = λ g. omega arith;
        first_of = λ g.
            found (λ k. eqb (f k) (f n)) n (n + 1)
            (none (λ k. eqb (f k) (f n)) n (λ k m. ne_eqb (f k) (f n) (λ e. omega (arith, at_most n k m, h.least))))
            (eq-eqb (f n) (f n) refl)
            (omega arith);
      }

  pub best_kept : (n c b : ℕ) → Best n c b → c ≤ f n → Best (n + 1) c b
  unfolding least_below
  best_kept n c b h l =
      record {
        least = rw (add-one n) (omega (arith, h.least));
        before = λ g. omega (arith, h.before g);
        first_of = λ g. h.first_of g ∙ sym (keep (λ k. eqb (f k) c) n (n + 1) (omega arith) (omega (arith, h.before g, h.first_of g)));
      }

  -- things past m whose values are no lower than the top change nothing
  pub best_rest : (m n c b : ℕ) → m ≤ n → ((k : ℕ) → m ≤ k → top ≤ f k) → Best m c b → Best n c b
  best_rest m n c b l h w =
      le_ind (λ k. Best k c b) w (λ k g e. rw (← add-one k) (best_kept k c b e (omega (arith, h k g, below_top k, e.least)))) n l

  -- nor do any where the least is 0
  pub best_zero : (m n c b : ℕ) → c ≡ 0 → m ≤ n → Best m c b → Best n c b
  best_zero m n c b z l w =
      le_ind (λ k. Best k c b) w (λ k g e. rw (← add-one k) (best_kept k c b e (omega (arith, z)))) n l

  -- what the loop ends with
  best_is : (n c b : ℕ) → Best n c b → c < top → b ≡ first_least top f n
  unfolding first_least
  best_is n c b h l = h.first_of l ∙ ap (λ x. first (λ k. eqb (f k) x) n) h.least

  pub best_done : (n c b : ℕ) → Best n c b → (c ≡ least_below top f n) × (c < top → b ≡ first_least top f n)
  best_done n c b h = (h.least, best_is n c b h)

-- ---- the thing that has it

-- some thing is the first of the least value
some_best : (top : ℕ) (f : ℕ → ℕ) (n : ℕ) → (c : ℕ) × (b : ℕ) × Best top f n c b
some_best top f zero = (top, 0, best_start top f 0)
some_best top f (suc n) = go (some_best top f n)
  where
    go : (c : ℕ) × (b : ℕ) × Best top f n c b → (c : ℕ) × (b : ℕ) × Best top f (suc n) c b
    go w = at (ltb (f n) w.0) refl
      where
        at : (t : Bool) → ltb (f n) w.0 ≡ t → (c : ℕ) × (b : ℕ) × Best top f (suc n) c b
        at true e = (f n, n, rw (← add-one n) (best_new top f n w.0 w.1 w.2 (ltb-true (f n) w.0 e)))
        at false e = (w.0, w.1, rw (← add-one n) (best_kept top f n w.0 w.1 w.2 (ltb-false (f n) w.0 e)))

module _ (top : ℕ) (f : ℕ → ℕ) (n : ℕ) (low : least_below top f n < top) where
  pub first_below : first_least top f n < n
  first_below =
      let w = some_best top f n in
      let l : w.0 < top = omega (arith, w.2.least) in
      omega (arith, w.2.before l, best_is top f n w.0 w.1 w.2 l)

  -- the least value below the top is attained
  pub attained : f (first_least top f n) ≡ least_below top f n
  unfolding first_least
  attained =
      eqb-true (f (first_least top f n)) (least_below top f n) (holds (λ i. eqb (f i) (least_below top f n)) n first_below)

-- ---- two rows of things that have the same values below the top

-- what has one in the first row has it in the second, at the same place
abbrev pub Kept : (top : ℕ) (f : ℕ → ℕ) (m : ℕ) (g : ℕ → ℕ) (n : ℕ) → Type 0
Kept top f m g n = (i : ℕ) → i < m → f i < top → (i < n) × (g i ≡ f i)

no_more : (top : ℕ) (f : ℕ → ℕ) (m : ℕ) (g : ℕ → ℕ) (n : ℕ) → Kept top f m g n → least_below top g n ≤ least_below top f m
no_more top f m g n h = at_least top f m (least_below top g n) (below_top top g n) (λ k l. at k l (ltb (f k) top) refl)
  where
    at : (k : ℕ) → k < m → (b : Bool) → ltb (f k) top ≡ b → least_below top g n ≤ f k
    at k l true e = let w = h k l (ltb-true (f k) top e) in omega (arith, at_most top g n k w.0, w.1)
    at k l false e = omega (arith, ltb-false (f k) top e, below_top top g n)

no_later : (top : ℕ) (f : ℕ → ℕ) (m : ℕ) (g : ℕ → ℕ) (n : ℕ) → Kept top f m g n → least_below top f m ≡ least_below top g n → least_below top f m < top
    → first_least top g n ≤ first_least top f m
unfolding first_least
no_later top f m g n h e low = go (ltb (first_least top f m) (first_least top g n)) refl
  where
    has : g (first_least top f m) ≡ least_below top g n
    has = (h (first_least top f m) (first_below top f m low) (omega (arith, attained top f m low))).1 ∙ attained top f m low ∙ e

    go : (b : Bool) → ltb (first_least top f m) (first_least top g n) ≡ b → first_least top g n ≤ first_least top f m
    go true t =
        let not = before (λ k. eqb (g k) (least_below top g n)) n (first_least top f m) (ltb-true (first_least top f m) (first_least top g n) t) in
        absurd (eqb-false (g (first_least top f m)) (least_below top g n) not has)
    go false t = ltb-false (first_least top f m) (first_least top g n) t

module _ (top : ℕ) (f : ℕ → ℕ) (m : ℕ) (g : ℕ → ℕ) (n : ℕ) (forth : Kept top f m g n) (back : Kept top g n f m) where
  pub least_same : least_below top f m ≡ least_below top g n
  least_same = omega (arith, no_more top f m g n forth, no_more top g n f m back)

  pub first_least_same : least_below top f m < top → first_least top f m ≡ first_least top g n
  first_least_same low =
      omega (arith, no_later top f m g n forth least_same low, no_later top g n f m back (sym least_same) (omega (arith, least_same)))

-- the least value is below the top where some value is
pub some_below : (top : ℕ) (f : ℕ → ℕ) (n : ℕ) → ltb (least_below top f n) top ≡ some (λ i. ltb (f i) top) n
unfolding least_below some
some_below top f zero = le-ltb top top (omega arith)
some_below top f (suc n) = rw (← some_below top f n) (either (least_below top f n) (f n))
  where
    either : (a b : ℕ) → ltb (min a b) top ≡ (ltb a top || ltb b top)
    either a b = go (ltb a top) (ltb b top) refl refl
      where
        go : (s t : Bool) → ltb a top ≡ s → ltb b top ≡ t → ltb (min a b) top ≡ (s || t)
        go true t p q = lt-ltb (min a b) top (omega (arith, ltb-true a top p))
        go false true p q = lt-ltb (min a b) top (omega (arith, ltb-true b top q))
        go false false p q = le-ltb (min a b) top (omega (arith, ltb-false a top p, ltb-false b top q))
