use Rattle.matching.proofs.Taken.{each_own}
use Rattle.matching.proofs.rows.FamilyRows.of_faces.Goals as goal

pub invariant_of-result : goal.invariant_of-result
invariant_of-result c = record { placed = each_own c.args.count c.args.rows.now c.told-rows c.requires }
