use mathlib.Core.Bool.{true, false}
use Rattle.font.specs.Tables.{u16_at}
use Rattle.query.proofs.Ends.{lacks_field, has_field}
use Rattle.query.proofs.fields.tested.Goals as goal

pub returns-in_err-next : goal.returns-in_err-next
returns-in_err-next c = lacks_field _ _ _ _ _ _ _ _ c.from_residual.ensures.1 (c.in_err-next.ensures u16_at)

pub returns-then-ok : goal.returns-then-ok
returns-then-ok c = rw c.if-ok.true (has_field _ u16_at _ _ _ true c.args.refusal (c.in_ok-next.ensures u16_at))

pub returns-else-ok : goal.returns-else-ok
returns-else-ok c = rw c.if-ok.false (has_field _ u16_at _ _ _ false c.args.refusal (c.in_ok-next.ensures u16_at))
