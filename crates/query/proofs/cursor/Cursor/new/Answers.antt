use mathlib.Core.Path.{refl}
use Rattle.query.specs.Cursor.{fresh}
use Rattle.query.proofs.cursor.Cursor.new.Goals as goal

pub returns : goal.returns
unfolding fresh
returns c = refl
