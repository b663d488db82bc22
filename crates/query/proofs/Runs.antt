-- Items that are read one after another, as the code of a run reads them, end as their reader says.
use Prim.Native.Nat.{ℕ, zero, suc, ◌+◌, ◌<◌}
use mathlib.Core.Path.{◌≡◌, refl}
use mathlib.Core.List.{List, ◌∷◌}
use native.Mathlib.Omega.{arith}
use Rattle.std.specs.Prelude.{Result, Ok, Err}
use Rattle.font.proofs.Refusals.{not_zero}
use Rattle.query.specs.declared.job.Refused.{Refused}
use Rattle.query.specs.Reader.{Reader, many, ended, end_in}
use Rattle.query.specs.Items.{FollowedBy, RunsTo}
use Rattle.query.proofs.Ends.{stops, goes_on, ends, many_none}

module _ (Gives : ℕ → Result ℕ Refused → Type 0) where
  pub run_over : (n p : ℕ) → n ≡ 0 → RunsTo Gives n p (Ok p)
  unfolding RunsTo
  run_over n p e = rw e refl

  pub run_stops : (n p : ℕ) (why : Refused) → 0 < n → Gives p (Err why) → RunsTo Gives n p (Err why)
  unfolding RunsTo FollowedBy
  run_stops zero p why l g = absurd (omega arith)
  run_stops (suc n) p why l g = (Err why, g, refl)

  pub run_goes : (n m p q : ℕ) (x : Result ℕ Refused) → n ≡ m + 1 → Gives p (Ok q) → RunsTo Gives m q x → RunsTo Gives n p x
  unfolding RunsTo FollowedBy
  run_goes n m p q x e g h = let is : n ≡ suc m = omega arith in rw is (Ok q, g, h)

  -- where each item ends as the reader does
  pub run_ends : {A : Type 0} (r : Reader A) (s : List ℕ) → ((p : ℕ) (x : Result ℕ Refused) → Gives p x → end_in x ≡ ended (r s p))
      → (n p : ℕ) (x : Result ℕ Refused) → RunsTo Gives n p x → end_in x ≡ ended (many n r s p)
  unfolding RunsTo FollowedBy many end_in
  run_ends {A} r s reads zero p x h = rw h (many_none r s p)
  run_ends {A} r s reads (suc n) p x h = next (λ q. run_ends r s reads n q x) h.0 (reads p h.0 h.1) h.2
    where
      next : ((q : ℕ) → RunsTo Gives n q x → end_in x ≡ ended (many n r s q))
          → (y : Result ℕ Refused) → end_in y ≡ ended (r s p) → FollowedBy (λ q. RunsTo Gives n q x) y x → end_in x ≡ ended (many (suc n) r s p)
      next rest (Err why) e f = rw f (stops r _ s p e (not_zero why.refusal))
      next rest (Ok q) e f = goes_on r _ s p e (λ v t. ends (many n r) (λ xs. v ∷ xs) s q (rest q f))
