use Rattle.font.proofs.FiniteBits.{bits_finite}
use Rattle.query.proofs.fields.finite_bits.Goals as goal

pub returns : goal.returns
returns c = bits_finite _
