use Rattle.std.proofs.Common.{◌≡◌, ℕ, ◌≤◌, Bool, List, length}
use Rattle.matching.specs.Below.{places_below}
use Rattle.matching.specs.Order.{same_face, padded}
use Rattle.matching.specs.declared.rows.Row.{Row}
use Rattle.matching.specs.Rows.{face_of_row, place_row}
use Rattle.matching.proofs.rows.FamilyRows.equal_places.Given as goal

abbrev pub equal : List Row → List ℕ → Row → ℕ → Bool
equal rows members chosen i = same_face (face_of_row (place_row rows members i)) (face_of_row chosen)

abbrev pub invariant-loop-place : goal.invariant-loop-place
invariant-loop-place l =
    (l.places ≡ padded (places_below (equal l.self.rows.now l.self.members.now l.face) l.place))
    × (l.count ≡ length (places_below (equal l.self.rows.now l.self.members.now l.face) l.place))
    × (l.count ≤ l.place)
