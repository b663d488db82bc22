-- Section 6: what an entry has a run of, an override its pairs and a family its face numbers: what reading them one after another gives.
use Rattle.std.specs.Prelude.{ℕ, zero, suc, ◌≡◌, Result, Ok, Err}
use Rattle.query.specs.declared.job.Refused.{Refused}

-- the first refusal is the answer, and otherwise the rest follows
unfoldable pub FollowedBy : (ℕ → Type 0) → Result ℕ Refused → Result ℕ Refused → Type 0
FollowedBy rest (Err why) result = result ≡ Err why
FollowedBy rest (Ok next) result = rest next

-- n items from a position on; `Gives p x` says that reading one at p gives x
unfoldable pub RunsTo : (ℕ → Result ℕ Refused → Type 0) → ℕ → ℕ → Result ℕ Refused → Type 0
RunsTo Gives zero p result = result ≡ Ok p
RunsTo Gives (suc n) p result = (x : Result ℕ Refused) × Gives p x × FollowedBy (λ q. RunsTo Gives n q result) x result
