-- The word of its definition, by the two cases.
use Rattle.output.specs.Words.{embolden_word}
use Rattle.output.proofs.words.embolden_word.Goals as goal

pub returns-then-on : goal.returns-then-on
unfolding embolden_word
returns-then-on c = simp c.if-on.true

pub returns-else-on : goal.returns-else-on
unfolding embolden_word
returns-else-on c = simp c.if-on.false
