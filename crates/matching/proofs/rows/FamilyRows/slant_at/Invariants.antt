use Rattle.std.proofs.Common.{◌≡◌, ℕ, Bool, false, List}
use Rattle.matching.specs.Below.{some}
use Rattle.matching.specs.Packed.{slants}
use Rattle.matching.specs.declared.rows.Row.{Row}
use Rattle.matching.specs.Rows.{face_of_row, place_row}
use Rattle.matching.proofs.rows.FamilyRows.slant_at.Given as goal

abbrev pub slanted : List Row → List ℕ → ℕ → ℕ → Bool
slanted rows members percent i = slants percent (face_of_row (place_row rows members i))

abbrev pub invariant-loop-place : goal.invariant-loop-place
invariant-loop-place l = some (slanted l.self.rows.now l.self.members.now l.percent) l.place ≡ false
