-- Places below a number: whether some or every one has a property, and the last that has it.
use Rattle.std.specs.Prelude.{ℕ, zero, suc, Bool, cond, List, [], ◌∷◌, ◌++◌}
-- whether some or every one has it is the lower crate's definition
unfoldable pub use Rattle.font.specs.First.{some, every}

-- the last i below n that p holds of, or 0 where there is none
unfoldable pub last : (ℕ → Bool) → ℕ → ℕ
last p zero = zero
last p (suc n) = cond (p n) n (last p n)

-- the places below n that p holds of, in order
unfoldable pub places_below : (ℕ → Bool) → ℕ → List ℕ
places_below p zero = []
places_below p (suc n) = places_below p n ++ cond (p n) (n ∷ []) []
