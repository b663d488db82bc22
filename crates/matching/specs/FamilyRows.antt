-- The family that the code's rows and members make, and the row at a place.
use Rattle.std.specs.Prelude.{ℕ}
use Rattle.matching.specs.declared.rows.Row.{Row}
use Rattle.matching.specs.declared.rows.FamilyRows.{FamilyRows}
use Rattle.matching.specs.Order.{Family}
use Rattle.matching.specs.Rows.{family_of_rows, place_row}

abbrev pub family_in : FamilyRows → Family
family_in rows = family_of_rows rows.rows.now rows.members.now rows.count

abbrev pub row_in : FamilyRows → ℕ → Row
row_in rows i = place_row rows.rows.now rows.members.now i
