-- Entries of one size, one after another: each lies as many sizes further as there are entries before it.
use Prim.Native.Nat.{ℕ, zero, suc, ◌+◌, ◌*◌}
use mathlib.Core.Path.{◌≡◌, refl, sym, ap, ◌∙◌}
use mathlib.Core.List.{List, [], ◌∷◌, ◌++◌, map, map-append}
use native.Mathlib.Omega.{arith}
use Rattle.font.specs.First.{tabulate}
use Rattle.query.specs.Reader.{Reader, done, many}
use Rattle.query.proofs.Ends.{ReadsAt, then_at, same_got}

module _ {A : Type 0} where
  -- the first, and the others
  pub tabulate_front : (f : ℕ → A) (n : ℕ) → tabulate f (suc n) ≡ f 0 ∷ tabulate (λ k. f (suc k)) n
  unfolding tabulate
  tabulate_front f zero = refl
  tabulate_front f (suc n) = ap (λ xs. xs ++ (f (suc n) ∷ [])) (tabulate_front f n)

  -- what is made of each
  pub map_tabulate : {B : Type 0} (h : A → B) (f : ℕ → A) (n : ℕ) → map h (tabulate f n) ≡ tabulate (λ k. h (f k)) n
  unfolding tabulate
  map_tabulate h f zero = refl
  map_tabulate h f (suc n) = map-append h (tabulate f n) (f n ∷ []) ∙ ap (λ xs. xs ++ (h (f n) ∷ [])) (map_tabulate h f n)

  module _ (size : ℕ) (v : ℕ → A) (r : Reader A) (s : List ℕ) (each : (p : ℕ) → ReadsAt r s p (v p) (p + size)) where
    pub many_even : (n p : ℕ) → ReadsAt (many n r) s p (tabulate (λ k. v (p + size * k)) n) (p + size * n)
    unfolding many done tabulate
    many_even zero p xs q e = let is = same_got e in (is.0, is.1 ∙ omega arith)
    many_even (suc n) p xs q e =
        let first = then_at r _ (p + size) (each p) refl e in
        let all = same_got (then_at (many n r) _ (p + size * suc n) (many_even n (p + size)) (further n) first) in
        (all.0 ∙ (λ j. v (here j) ∷ tabulate (λ k. v (further k j)) n) ∙ sym (tabulate_front (λ k. v (p + size * k)) n), all.1)
      where
        here : p ≡ p + size * 0
        here = omega arith

        further : (k : ℕ) → p + size + size * k ≡ p + size * suc k
        further k = omega arith
