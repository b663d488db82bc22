use Prim.Native.Nat.{ℕ, ◌+◌}
use mathlib.Core.Path.{◌≡◌}
use mathlib.Core.Bool.{Bool, ◌&&◌}
use lib.ListN.{length}
use Rattle.matching.specs.Below.{places_below}
use Rattle.matching.specs.Matching.{place_or}
use Rattle.matching.specs.declared.rows.FamilyRows.{FamilyRows}
use Rattle.matching.specs.Rows.{place_row}
use Rattle.query.specs.CallTables.{held_row}
use Rattle.query.specs.Listed.{equals_chosen}
use Rattle.query.proofs.families.held_equal.Given as goal

-- whether the face at a place is held and equals the chosen one
abbrev pub equal : FamilyRows → ℕ → ℕ → Bool
equal family chosen i =
    held_row family.rows.now family.members.now i
    && equals_chosen family.rows.now family.members.now family.count chosen (place_row family.rows.now family.members.now i)

abbrev pub invariant-loop-place : goal.invariant-loop-place
invariant-loop-place l = l.n ≡ l.left + length (places_below (equal l.family (place_or l.family.count l.fn.chosen)) l.place)
