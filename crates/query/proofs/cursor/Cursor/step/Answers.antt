use mathlib.Core.Path.{ap, ◌∙◌}
use Rattle.std.proofs.lemmas.Result.{MatchResult-weaker}
use Rattle.query.specs.Cursor.{after, is_offer, stepped, step_in}
use Rattle.query.proofs.CodeAnswers.{found_is}
use Rattle.query.proofs.Demands.{demands}
use borrow.Author.Rules.{rules}
use Rattle.query.proofs.cursor.Cursor.step.Goals as goal

pub returns : goal.returns
unfolding stepped step_in
returns c =
    let e = c.offer_at-answer.ensures in
    let go = c.after-self.ensures ∙ ap (after c.args.self) (found_is c.offer_at-answer.result c.is_ok_and.result (MatchResult-weaker c.offer_at-answer.result c.is_ok_and.ensures (λ x p. search rules) (λ y p. p)) ∙ ap is_offer e) in
    record { value = λ i. record { cursor = go i; answer = e i }; demands = demands _ (λ i. search rules) }
