use Rattle.query.specs.CallTables.{is_held}
use borrow.Author.Rules.{rules}
use Rattle.query.proofs.families.is_held.Goals as goal

pub returns : goal.returns
unfolding is_held
returns c = search rules
