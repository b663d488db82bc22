use native.Mathlib.Omega.{arith}
use Rattle.query.proofs.OverriddenRows.{rows_first, row_changed, row_kept, rows_last}
use Rattle.query.proofs.loading.load_overrides.Goals as goal
use Rattle.query.proofs.loading.load_overrides.Goals.{then-face-rows, else-face-rows}

pub loop-init : goal.loop-init
loop-init c = (omega arith, rows_first)

pub loop-preserved : goal.loop-preserved
loop-preserved c =
    let left = c.loop.invariant.1 in
    let named = c.u16_at-face.ensures in
    let next = c.override_end-place.ensures in (
      omega (arith, next.1),
      elim c.if-face-rows.branch [
        | then-face-rows w ↦ rw w.rows-is (row_changed (omega arith) left next.0 named w.given_at.ensures w.override_row.ensures)
        | else-face-rows w ↦ rw w.rows-is (row_kept (omega arith) left next.0 named w.if-face-rows.false)
      ],
    )

pub returns : goal.returns
returns c = rows_last c.loop.invariant.1 c.loop-test.false
