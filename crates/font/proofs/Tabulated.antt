-- Laws of `tabulate`: its length, its elements, and a store into it, for a loop that fills a list from the front.
use Prim.Native.Nat.{ℕ, zero, suc, ◌+◌, ◌<◌}
use mathlib.Core.Path.{◌≡◌, refl, sym, ◌∙◌, ap}
use mathlib.Core.Bool.{Bool, true, false, cond}
use mathlib.Core.List.{[], ◌∷◌, ◌++◌}
use mathlib.Core.Logic.{⊎_elim, ◌≢◌}
use native.Mathlib.Omega.{arith}
use lib.ListN.{length, get_or, set, length-append, length-set, get_or-append}
use lib.Seq.{get_or-append_seam, get_or-set_same, get_or-set_other, ext_get_or}
use lib.Dec.{ltb, eqb}
use borrow.Author.Tests.{lt-ltb, le-ltb, ltb-true, ltb-false, eqb-true, eqb-false}
use Rattle.font.specs.First.{tabulate}
use Rattle.font.proofs.First.{below_or_last}

module _ {A : Type 0} where
  pub length_is : (f : ℕ → A) (n : ℕ) → length (tabulate f n) ≡ n
  unfolding tabulate
  length_is f zero = refl
  length_is f (suc n) = length-append (tabulate f n) (f n ∷ []) ∙ omega (arith, length_is f n)

  pub element : (f : ℕ → A) (n i : ℕ) (d : A) → i < n → get_or (tabulate f n) i d ≡ f i
  unfolding tabulate
  element f zero i d h = absurd (omega arith)
  element f (suc n) i d h = ⊎_elim (λ l. get_or-append (tabulate f n) (f n ∷ []) d i (omega (arith, length_is f n)) ∙ element f n i d l) (λ e. at_end_lem e) (below_or_last i n h)
    where
      at_end_lem : i ≡ n → get_or (tabulate f n ++ (f n ∷ [])) i d ≡ f i
      at_end_lem e = rw (e, ap (λ k. get_or (tabulate f n ++ (f n ∷ [])) k d) (sym (length_is f n)), get_or-append_seam)

  -- two that agree at every place
  pub same : (f g : ℕ → A) (n : ℕ) (d : A) → ((i : ℕ) → i < n → f i ≡ g i) → tabulate f n ≡ tabulate g n
  same f g n d h =
      ext_get_or d (tabulate f n) (tabulate g n) (length_is f n ∙ sym (length_is g n))
      (λ i l. let b : i < n = omega (arith, length_is f n) in element f n i d b ∙ h i b ∙ sym (element g n i d b))

  -- a store at i
  stored : (f g : ℕ → A) (n i : ℕ) (d : A) → i < n → ((k : ℕ) → k ≢ i → f k ≡ g k) → set (tabulate f n) i (g i) ≡ tabulate g n
  stored f g n i d h others =
      ext_get_or d (set (tabulate f n) i (g i)) (tabulate g n)
      (length-set (tabulate f n) i (g i) ∙ length_is f n ∙ sym (length_is g n))
      (λ k l. at k (omega (arith, length-set (tabulate f n) i (g i), length_is f n)) (eqb k i) refl)
    where
      at : (k : ℕ) → k < n → (b : Bool) → eqb k i ≡ b → get_or (set (tabulate f n) i (g i)) k d ≡ get_or (tabulate g n) k d
      at k l true e =
          let here : k ≡ i = eqb-true k i e in
          rw here (get_or-set_same (tabulate f n) i (g i) d (omega (arith, length_is f n)) ∙ sym (element g n i d h))
      at k l false e =
          get_or-set_other (tabulate f n) i k (g i) d (eqb-false k i e)
          ∙ element f n k d l
          ∙ others k (eqb-false k i e)
          ∙ sym (element g n k d l)

  -- The list of the first i elements, with one filler in every other place: what a loop that fills it holds at its head.
  pub filled : (f : ℕ → A) (filler : A) (n i : ℕ) → i < n
      → set (tabulate (λ k. cond (ltb k i) (f k) filler) n) i (f i) ≡ tabulate (λ k. cond (ltb k (i + 1)) (f k) filler) n
  filled f filler n i h =
      rw (← ap (λ b. cond b (f i) filler) (lt-ltb i (i + 1) (omega arith)))
      (stored (λ k. cond (ltb k i) (f k) filler) (λ k. cond (ltb k (i + 1)) (f k) filler) n i filler h
      (λ k ne. ap (λ b. cond b (f k) filler) (same_test k i ne)))
    where
      same_test : (k i : ℕ) → k ≢ i → ltb k i ≡ ltb k (i + 1)
      same_test k i ne = go (ltb k i) refl
        where
          go : (b : Bool) → ltb k i ≡ b → ltb k i ≡ ltb k (i + 1)
          go true e = e ∙ sym (lt-ltb k (i + 1) (omega (arith, ltb-true k i e)))
          go false e = e ∙ sym (le-ltb k (i + 1) (omega (arith, ltb-false k i e)))
