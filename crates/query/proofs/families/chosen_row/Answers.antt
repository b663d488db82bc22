use mathlib.Core.Path.{refl}
use native.Mathlib.Omega.{arith}
use borrow.Author.Tests.{lt-ltb, le-ltb}
use Rattle.matching.specs.Matching.{place_or}
use Rattle.query.specs.Listed.{chosen_row}
use Rattle.query.proofs.families.chosen_row.Goals as goal

pub returns-in-Some : goal.returns-in-Some
unfolding chosen_row place_or
returns-in-Some c = rw (c.in-Some.is, lt-ltb c.in-Some.place c.args.family.count c.if-place-family.true, c.row.ensures) refl

pub returns-in_default : goal.returns-in_default
unfolding chosen_row place_or
returns-in_default c = rw (c.in-Some.is, le-ltb c.in-Some.place c.args.family.count c.if-place-family.false) refl

pub returns-in_default-2 : goal.returns-in_default-2
unfolding chosen_row place_or
returns-in_default-2 c = rw (c.in_default.is, le-ltb c.args.family.count c.args.family.count (omega arith)) refl
