use Prim.Native.Nat.{ℕ, ◌+◌, ◌-◌, ◌^◌, ◌≤◌, ◌<◌}
use mathlib.Core.Path.{◌≡◌, refl, ap}
use mathlib.Core.Bool.{Bool, true, false, cond}
use native.Mathlib.Omega.{arith}
use lib.Dec.{ltb}
use borrow.Author.Tests.{ltb-true, ltb-false}
use Rattle.query.specs.Cursor.{after}
use Rattle.query.proofs.cursor.Cursor.after.Goals as goal

-- one further, but not past the last
further : (n m : ℕ) → n < 2 ^ 32 → m ≡ Prim.Native.Nat.min (n + 1) (2 ^ 32 - 1) → (b : Bool) → ltb n (2 ^ 32 - 1) ≡ b → m ≡ cond b (n + 1) n
further n m small is true t = let l = ltb-true n (2 ^ 32 - 1) t in omega arith
further n m small is false t = let l = ltb-false n (2 ^ 32 - 1) t in omega arith

pub returns-then-found : goal.returns-then-found
unfolding after
returns-then-found c =
    let self = c.args.self in
    rw c.if-found.true (ap (λ (n : ℕ). record { request = self.request; next = n }) (further self.next c.saturating_add.result (omega arith) c.saturating_add.ensures _ refl))

pub returns-else-found : goal.returns-else-found
unfolding after
returns-else-found c = rw c.if-found.false refl
