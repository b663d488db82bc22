use mathlib.Core.Path.{sym}
use Rattle.query.specs.Values.{number_behind, behind_number}
use Rattle.query.proofs.fields.behind_file.Goals as goal

pub returns-then-is_collection : goal.returns-then-is_collection
unfolding number_behind behind_number
returns-then-is_collection c = simp (sym c.is_collection.ensures, c.if-is_collection.true, sym c.u16_at.ensures)

pub returns : goal.returns
unfolding number_behind behind_number
returns c = simp (sym c.is_collection.ensures, c.if-is_collection.false)
