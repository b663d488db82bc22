-- The invariant: `best` is the least rank of the places passed, and their numbers are of 32 bits. A turn is `scan_more` of proofs/Scans.antt.
use Rattle.std.proofs.Common.{sym, arith}
use Rattle.matching.proofs.Scans.{scan_none, scan_more, scan_all}
use Rattle.matching.proofs.rows.FamilyRows.least.Goals as goal

pub loop-place-init : goal.loop-place-init
loop-place-init g c = λ by h. scan_none

pub loop-place-preserved : goal.loop-place-preserved
loop-place-preserved g c =
    λ by h.
    scan_more (c.loop-place.invariant by h)
    (h c.loop-place.place c.rank.result (omega arith) (rw c.row.ensures at c.rank.ensures), rw (sym c.row.ensures) (omega (arith, c.row.type_inv)))
    c.min-best.ensures

pub returns : goal.returns
returns g c = λ by h. scan_all (c.loop-place.invariant by h) (omega arith)
