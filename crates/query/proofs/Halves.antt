-- Where so many numbers of 16 bits end: past the last of them, or at the first that reaches past the job.
use Prim.Native.Nat.{ℕ, zero, suc, ◌+◌, ◌*◌, ◌-◌, ◌≤◌, ◌<◌}
use mathlib.Core.Path.{◌≡◌, refl, ◌∙◌}
use mathlib.Core.List.{List}
use native.Mathlib.Omega.{arith}
use lib.ListN.{length}
use borrow.Author.Tests.{le-leb, lt-leb}
use Rattle.query.specs.Reader.{number, field, many, ended}
use Rattle.query.specs.Fields.{half}
use Rattle.query.proofs.Ends.{many_over, many_stops, many_goes}

module _ (s : List ℕ) where
  half_inside : (p : ℕ) → p + 2 ≤ length s → record { refusal = 0; at = p + 2 } ≡ ended (half s p)
  unfolding half field ended
  half_inside p h = simp (le-leb (p + 2) (length s) h)

  half_past : (p : ℕ) → length s < p + 2 → record { refusal = 18; at = p } ≡ ended (half s p)
  unfolding half field ended number
  half_past p h = simp (lt-leb (p + 2) (length s) h)

  -- a number that lies in the job, and those after it
  next : (n p q : ℕ) {why : ℕ} → p + 2 ≤ length s → 0 < n → record { refusal = why; at = q } ≡ ended (many (n - 1) half s (p + 2))
      → record { refusal = why; at = q } ≡ ended (many n half s p)
  next n p q h l e = e ∙ many_goes half n s p l (half_inside p h) refl

  pub halves_fit : (n p : ℕ) → p + 2 * n ≤ length s → record { refusal = 0; at = p + 2 * n } ≡ ended (many n half s p)
  halves_fit zero p h =
      let here : p + 2 * 0 ≡ p = omega arith in
      rw here (many_over half 0 s p (omega arith))
  halves_fit (suc n) p h =
      let there : p + 2 * suc n ≡ p + 2 + 2 * n = omega arith in
      let less : suc n - 1 ≡ n = omega arith in
      rw there (next (suc n) p (p + 2 + 2 * n) (omega arith) (omega arith) (rw less (halves_fit n (p + 2) (omega arith))))

  -- of more numbers than the `fit` that have room
  pub halves_past : (fit n p : ℕ) → fit < n → p + 2 * fit ≤ length s → length s < p + 2 * fit + 2
      → record { refusal = 18; at = p + 2 * fit } ≡ ended (many n half s p)
  halves_past zero n p l h m =
      let here : p + 2 * 0 ≡ p = omega arith in
      rw here (many_stops half n s p (omega arith) (half_past p (omega arith)) (λ z. omega arith))
  halves_past (suc fit) n p l h m =
      let there : p + 2 * suc fit ≡ p + 2 + 2 * fit = omega arith in
      rw there (next n p (p + 2 + 2 * fit) (omega arith) (omega arith) (halves_past fit (n - 1) (p + 2) (omega arith) (omega arith) (omega arith)))
