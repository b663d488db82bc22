use Rattle.query.specs.Entries.{style_or_spare}
use Rattle.query.proofs.Ends.{refuses, goes_on, ends}
use Rattle.query.proofs.entries.style_or_spare.Goals as goal

pub returns-then-given : goal.returns-then-given
unfolding style_or_spare
returns-then-given c = simp c.if-given.true (ends _ _ _ _ c.style.ensures)

pub returns-in_err-kind : goal.returns-in_err-kind
unfolding style_or_spare
returns-in_err-kind c = simp c.if-given.false (refuses _ _ _ _ _ _ c.from_residual.ensures.1 c.in_err-kind.ensures)

pub returns : goal.returns
unfolding style_or_spare
returns c = simp c.if-given.false (goes_on _ _ _ _ c.in_ok-kind.ensures (λ v e. ends _ _ _ _ c.spare_word.ensures))
