use Rattle.std.proofs.Common.{◌≡◌, ℕ, ◌<◌}
use Rattle.matching.specs.Order.{Face}
use Rattle.matching.specs.Packed.{largest, Scanned}
use Rattle.matching.specs.Rows.{face_of_row, place_row, family_of_rows}
use Rattle.matching.proofs.rows.FamilyRows.least.Given as goal

abbrev pub invariant-loop-place : goal.invariant-loop-place
invariant-loop-place g l =
    (by : Face → ℕ → ℕ)
    → ((i r : ℕ) → i < l.self.count → goal.F-post g l.rank (place_row l.self.rows.now l.self.members.now i) i r → r ≡ by (face_of_row (place_row l.self.rows.now l.self.members.now i)) i)
    → Scanned (family_of_rows l.self.rows.now l.self.members.now l.place) by largest l.best
