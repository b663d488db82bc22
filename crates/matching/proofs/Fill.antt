-- A list of 64 that a loop fills from the front, a thing for each place.
use Prim.Native.Nat.{ℕ, ◌+◌, ◌<◌}
use mathlib.Core.Path.{◌≡◌, sym, ◌∙◌, ap}
use mathlib.Core.List.{List}
use native.Mathlib.Omega.{arith}
use lib.ListN.{length, get_or, set, length-set}
use lib.Seq.{get_or-set_same, get_or-set_other}
use Rattle.matching.proofs.Ranks.{Tri, low, same, high, tri}

-- below i the list holds f, whatever stands past it; d is read past the list's end
module _ {A : Type 0} (d : A) (f : ℕ → A) where
  pub record Filled (xs : List A) (i : ℕ) : Type 0 where
    pub long : length xs ≡ 64
    pub each : (j : ℕ) → j < i → get_or xs j d ≡ f j

  pub filled_none : (xs : List A) → length xs ≡ 64 → Filled xs 0
  filled_none xs e = record { long = e; each = λ j l. absurd (omega arith) }

  pub filled_more : (xs : List A) (i : ℕ) (v : A) → Filled xs i → i < 64 → v ≡ f i → Filled (set xs i v) (i + 1)
  filled_more xs i v h l e = record { long = length-set xs i v ∙ h.long; each = λ j m. go j m (tri j i) }
    where
      go : (j : ℕ) → j < i + 1 → Tri j i → get_or (set xs i v) j d ≡ f j
      go j m (low k) = get_or-set_other xs i j v d (omega arith) ∙ h.each j k
      go j m (same q) =
          ap (λ (k : ℕ). get_or (set xs i v) k d) q ∙ get_or-set_same xs i v d (omega (arith, h.long)) ∙ e ∙ ap f (sym q)
      go j m (high k) = absurd (omega arith)
