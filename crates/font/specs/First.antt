-- The first of some numbered things that has a property, and the least value among them.
use Rattle.std.specs.Prelude.{ℕ, zero, suc, min, Bool, true, false, ◌&&◌, ◌||◌, cond, List, [], ◌∷◌, ◌++◌, ltb, eqb}

-- the first i below n that p holds of, or n where there is none
unfoldable pub first : (ℕ → Bool) → ℕ → ℕ
first p zero = zero
first p (suc n) = cond (ltb (first p n) n) (first p n) (cond (p n) n (suc n))

-- the least of top and f i for the i below n
unfoldable pub least_below : ℕ → (ℕ → ℕ) → ℕ → ℕ
least_below top f zero = top
least_below top f (suc n) = min (least_below top f n) (f n)

-- whether p holds of some i below n
unfoldable pub some : (ℕ → Bool) → ℕ → Bool
some p zero = false
some p (suc n) = some p n || p n

-- whether p holds of every i below n
unfoldable pub every : (ℕ → Bool) → ℕ → Bool
every p zero = true
every p (suc n) = every p n && p n

-- the first i below n that has the least value
unfoldable pub first_least : ℕ → (ℕ → ℕ) → ℕ → ℕ
first_least top f n = first (λ i. eqb (f i) (least_below top f n)) n

-- the list of f 0, f 1, .. of n elements
unfoldable pub tabulate {ℓ} : {A : Type ℓ} → (ℕ → A) → ℕ → List A
tabulate f zero = []
tabulate f (suc n) = tabulate f n ++ (f n ∷ [])
