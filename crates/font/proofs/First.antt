-- Laws of `first` and `some`. Of `first`: it is at most the number of things, what it finds has the property, and nothing before it has.
use Prim.Native.Nat.{ℕ, zero, suc, ◌+◌, ◌≤◌, ◌<◌}
use mathlib.Core.Path.{◌≡◌, refl, sym, ◌∙◌, ap}
use mathlib.Core.Bool.{Bool, true, false, ◌||◌, cond}
use mathlib.Core.Logic.{◌⊎◌, inl, inr, ⊎_elim}
use native.Mathlib.Omega.{arith}
use native.Mathlib.Decide.{le_ind}
use native.Mathlib.Numerals.{add-one}
use lib.Dec.{ltb}
use borrow.Author.Tests.{lt-ltb, le-ltb, ltb-true, ltb-false}
use Rattle.font.specs.First.{first, some}

-- below n + 1 is below n, or n
pub below_or_last : (k n : ℕ) → k < suc n → (k < n) ⊎ (k ≡ n)
below_or_last k n l = go (ltb k n) refl
  where
    go : (b : Bool) → ltb k n ≡ b → (k < n) ⊎ (k ≡ n)
    go true t = inl (ltb-true k n t)
    go false t = inr (omega (arith, ltb-false k n t))

-- ---- for a loop that looks for it

-- none among the first 0
pub none_start : (p : ℕ → Bool) → first p 0 ≡ 0
unfolding first
none_start p = refl

pub none_more : (p : ℕ → Bool) (i : ℕ) → first p i ≡ i → p i ≡ false → first p (i + 1) ≡ i + 1
unfolding first
none_more p i h e = rw (add-one i) (simp (h, le-ltb i i (omega arith), e))

-- one step of `found`: i is below n, or is n
found_step : (p : ℕ → Bool) (i n : ℕ) → (i < n → i ≡ first p n) → first p i ≡ i → p i ≡ true → i < suc n → i ≡ first p (suc n)
unfolding first
found_step p i n back h e l = go (ltb i n) refl
  where
    go : (b : Bool) → ltb i n ≡ b → i ≡ first p (suc n)
    go true t = let r : first p n ≡ i = sym (back (ltb-true i n t)) in simp (r, t)
    go false t =
        let same : n ≡ i = omega (arith, ltb-false i n t) in
        rw same (simp (h, le-ltb i i (omega arith), e))

-- the first that was met is the first of all n
pub found : (p : ℕ → Bool) (i n : ℕ) → first p i ≡ i → p i ≡ true → i < n → i ≡ first p n
found p i zero h e l = let z : i < 0 = l in omega arith
found p i (suc n) h e l = found_step p i n (found p i n h e) h e l

-- ---- what it is

pub at_most : (p : ℕ → Bool) (n : ℕ) → first p n ≤ n
unfolding first
at_most p zero = omega arith
at_most p (suc n) = go (ltb (first p n) n) (p n) refl
  where
    go : (b q : Bool) → ltb (first p n) n ≡ b → cond b (first p n) (cond q n (suc n)) ≤ suc n
    go true q t = omega (arith, ltb-true (first p n) n t)
    go false true t = omega arith
    go false false t = omega arith

pub holds : (p : ℕ → Bool) (n : ℕ) → first p n < n → p (first p n) ≡ true
unfolding first
holds p zero l = absurd (let z : first p 0 < 0 = l in omega arith)
holds p (suc n) l = go (ltb (first p n) n) (p n) refl refl (holds p n) l
  where
    go : (b q : Bool) → ltb (first p n) n ≡ b → p n ≡ q → (first p n < n → p (first p n) ≡ true)
        → cond b (first p n) (cond q n (suc n)) < suc n
        → p (cond b (first p n) (cond q n (suc n))) ≡ true
    go true q t e back l = back (ltb-true (first p n) n t)
    go false true t e back l = e
    go false false t e back l = absurd (omega arith)

-- nothing before it has the property
pub before : (p : ℕ → Bool) (n k : ℕ) → k < first p n → p k ≡ false
unfolding first
before p zero k l = absurd (omega arith)
before p (suc n) k l = go (ltb (first p n) n) (p n) refl refl (before p n k) l
  where
    go : (b q : Bool) → ltb (first p n) n ≡ b → p n ≡ q → (k < first p n → p k ≡ false)
        → k < cond b (first p n) (cond q n (suc n))
        → p k ≡ false
    go true q t e back l = back l
    go false true t e back l = back (omega (arith, ltb-false (first p n) n t, at_most p n))
    go false false t e back l =
        ⊎_elim (λ h. back (omega (arith, ltb-false (first p n) n t))) (λ h. ap p h ∙ e) (below_or_last k n l)

-- a search that meets the same answers ends at the same place
pub first_same : (p q : ℕ → Bool) (n : ℕ) → ((i : ℕ) → i < n → p i ≡ q i) → first p n ≡ first q n
unfolding first
first_same p q zero h = refl
first_same p q (suc n) h =
    λ k.
    cond (ltb (first_same p q n (λ i l. h i (omega arith)) k) n) (first_same p q n (λ i l. h i (omega arith)) k) (cond (h n (omega arith) k) n (suc n))

-- ---- for a loop that goes on after it has found one

-- none has the property
pub none : (p : ℕ → Bool) (n : ℕ) → ((k : ℕ) → k < n → p k ≡ false) → first p n ≡ n
none p zero h = none_start p
none p (suc n) h = rw (← add-one n) (none_more p n (none p n (λ k l. h k (omega arith))) (h n (omega arith)))

-- none of n is none of fewer
pub none_of_fewer : (p : ℕ → Bool) (m n : ℕ) → m ≤ n → first p n ≡ n → first p m ≡ m
none_of_fewer p m n l e = none p m (λ k h. before p n k (omega arith))

-- what was found stays the first as more things come
keep_step : (p : ℕ → Bool) (n : ℕ) → first p n < n → first p (suc n) ≡ first p n
unfolding first
keep_step p n h = simp (lt-ltb (first p n) n h)

pub keep : (p : ℕ → Bool) (m n : ℕ) → m ≤ n → first p m < m → first p n ≡ first p m
keep p m n l h = le_ind (λ k. first p k ≡ first p m) refl (λ k g e. keep_step p k (omega arith) ∙ e) n l

-- ---- `some`

pub some_same : (p q : ℕ → Bool) (n : ℕ) → ((i : ℕ) → p i ≡ q i) → some p n ≡ some q n
unfolding some
some_same p q zero h = refl
some_same p q (suc n) h = λ k. some_same p q n h k || h n k

-- it fails exactly where p fails everywhere
pub some_fails : (p : ℕ → Bool) (n : ℕ) → ((i : ℕ) → i < n → p i ≡ false) → some p n ≡ false
unfolding some
some_fails p zero h = refl
some_fails p (suc n) h = rw (some_fails p n (λ i l. h i (omega arith)), h n (omega arith))

pub all_fail : (p : ℕ → Bool) (n : ℕ) → some p n ≡ false → (i : ℕ) → i < n → p i ≡ false
unfolding some
all_fail p zero h i l = absurd (omega arith)
all_fail p (suc n) h i l = go (some p n) (p n) refl refl h (λ e. all_fail p n e i)
  where
    go : (a b : Bool) → some p n ≡ a → p n ≡ b → (a || b) ≡ false → (some p n ≡ false → i < n → p i ≡ false) → p i ≡ false
    go false false s e z back = ⊎_elim (λ g. back s g) (λ g. ap p g ∙ e) (below_or_last i n l)
    go false true s e z back = absurd (let c : ◌≡◌ {A = ℕ} 0 1 = cc in omega arith)
    go true b s e z back = absurd (let c : ◌≡◌ {A = ℕ} 0 1 = cc in omega arith)

-- ---- for a loop that looks for one

pub some_start : (p : ℕ → Bool) → some p 0 ≡ false
unfolding some
some_start p = refl

pub some_more : (p : ℕ → Bool) (i : ℕ) → some p i ≡ false → p i ≡ false → some p (i + 1) ≡ false
unfolding some
some_more p i h e = rw (add-one i) (simp (h, e))

pub some_found : (p : ℕ → Bool) (i n : ℕ) → i < n → p i ≡ true → true ≡ some p n
unfolding some
some_found p i zero l e = absurd (omega arith)
some_found p i (suc n) l e = ⊎_elim (λ h. rw (← some_found p i n h e)) (λ h. go (some p n) (ap p (sym h) ∙ e)) (below_or_last i n l)
  where
    go : (b : Bool) → p n ≡ true → true ≡ (b || p n)
    go true q = refl
    go false q = sym q

-- some has it where the first that has it is below n
pub some_first : (p : ℕ → Bool) (n : ℕ) → ltb (first p n) n ≡ some p n
some_first p n = go (ltb (first p n) n) refl
  where
    go : (b : Bool) → ltb (first p n) n ≡ b → ltb (first p n) n ≡ some p n
    go true t = let l = ltb-true (first p n) n t in t ∙ some_found p (first p n) n l (holds p n l)
    go false t = t ∙ sym (some_fails p n (λ i l. before p n i (omega (arith, ltb-false (first p n) n t))))
