use mathlib.Core.Path.{refl}
use native.Mathlib.Omega.{arith}
use borrow.Author.Rules.{rules}
use Rattle.std.proofs.lemmas.Result.{err_from_is_err_and}
use Rattle.font.specs.Refusals as Refusals
use Rattle.font.proofs.Refusals.{not_zero}
use Rattle.query.specs.Reader.{end_in}
use Rattle.query.specs.Sections.{Requests}
use Rattle.query.specs.Positions.{asked_in}
use Rattle.query.proofs.Leaves.{entry_begins}
use Rattle.query.proofs.WalkCases.{no_requests, bytes_follow, not_asked, asked_there}
use Rattle.query.proofs.job.requests.Goals as goal

pub read_section-requires-clause-begins : goal.read_section-requires-clause-begins
read_section-requires-clause-begins c = λ p q h. entry_begins Requests c.args.job.now p q c.requires (search rules)

pub returns-in_err-position : goal.returns-in_err-position
unfolding end_in asked_in
returns-in_err-position c =
    let p = err_from_is_err_and c.from_residual.result c.from_residual.ensures.1 in
    rw (p.1, p.2) (no_requests _ _ _ (c.in_err-position.ensures Requests refl (λ p x h. search rules)).value (not_zero _))

pub returns-then-position-job : goal.returns-then-position-job
unfolding end_in asked_in Refusals.number
returns-then-position-job c = bytes_follow _ _ _ (c.in_ok-position.ensures Requests refl (λ p x h. search rules)).value refl c.if-position-job.true

pub returns-then-asked-u16_at : goal.returns-then-asked-u16_at
unfolding end_in asked_in
returns-then-asked-u16_at c =
    let read = c.in_ok-position.ensures Requests refl (λ p x h. search rules) in
    asked_there _ _ _ read.value refl c.if-position-job.false (omega (arith, c.if-asked-u16_at.true, c.u16_at.ensures)) read.noted (search rules) c.wide.ensures.0

pub returns-else-asked-u16_at : goal.returns-else-asked-u16_at
unfolding end_in asked_in
returns-else-asked-u16_at c =
    let read = c.in_ok-position.ensures Requests refl (λ p x h. search rules) in
    not_asked _ _ _ read.value refl c.if-position-job.false (omega (arith, c.if-asked-u16_at.false, c.u16_at.ensures))
