use native.Mathlib.Omega.{arith}
use Rattle.font.specs.Refusals as Refusals
use Rattle.query.specs.Reader.{end_in}
use Rattle.query.proofs.Halves.{halves_fit, halves_past}
use Rattle.query.proofs.fields.halves.Goals as goal

pub returns-then-fit-count : goal.returns-then-fit-count
unfolding end_in Refusals.number
returns-then-fit-count c = halves_past _ _ _ _ c.if-fit-count.true (omega arith) (omega arith)

pub returns : goal.returns
unfolding end_in
returns c = halves_fit _ _ _ (omega arith)
