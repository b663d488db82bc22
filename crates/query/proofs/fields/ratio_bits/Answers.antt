use mathlib.Core.Path.{sym, ◌∙◌}
use Rattle.font.proofs.FiniteBits.{finite_no_nan, ratio_finite}
use Rattle.query.proofs.fields.ratio_bits.Goals as goal

pub float_from_bits-bits : goal.float_from_bits-bits
float_from_bits-bits c = rw (finite_no_nan c.args.bits (sym c.finite_bits.ensures ∙ c.if-finite_bits.true)) tt

pub returns-else-finite_bits : goal.returns-else-finite_bits
returns-else-finite_bits c = c.if-finite_bits.false ∙ ratio_finite _ (sym c.finite_bits.ensures ∙ c.if-finite_bits.false)
