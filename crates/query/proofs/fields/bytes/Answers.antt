use mathlib.Core.Path.{refl}
use native.Mathlib.Omega.{arith}
use Rattle.query.proofs.Ends.{field_fits, field_lacks}
use Rattle.query.proofs.fields.bytes.Goals as goal

pub returns-in-Some : goal.returns-in-Some
returns-in-Some c = λ v. field_fits _ _ _ _ _ refl (omega (arith, c.in-Some.ensures, c.if-at-last.true))

pub returns-in_default : goal.returns-in_default
returns-in_default c = λ v. field_lacks _ _ _ _ (omega (arith, c.in-Some.ensures))

pub returns-in_default-2 : goal.returns-in_default-2
returns-in_default-2 c = λ v. field_lacks _ _ _ _ (omega (arith, c.in_default.ensures))
