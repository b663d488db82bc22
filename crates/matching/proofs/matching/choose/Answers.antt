use Rattle.std.proofs.Common.{rules, arith, ℕ, ◌≡◌, Err, sym, ◌∙◌, ap}
use Rattle.font.specs.Refusals.{refusal_in}
use Rattle.matching.specs.Order.{Family, choice}
use Rattle.matching.specs.Matching.{Refused, family_of, request_of, answered, choice_in}
use Rattle.font.proofs.Refusals.{some_number}
use Rattle.matching.proofs.Matched.{refused, accepted, answers}
use Rattle.matching.proofs.Taken.{whole}
use Rattle.matching.proofs.matching.choose.Goals as goal

pub returns-in_err-take_family-clause-value : goal.returns-in_err-take_family-clause-value
unfolding refusal_in choice_in
returns-in_err-take_family-clause-value c =
    let a = c.args in
    let why = c.in_err-take_family.field-0.0 in
    let e = ap refusal_in (sym c.in_err-take_family.was) ∙ c.take_family.ensures.value in
    let z : c.from_residual.result ≡ Err why = search rules in
    ap choice_in z ∙ ap Refused e ∙ sym (refused a.fonts.now a.count a.request a.synthesize_style (λ d. omega (arith, some_number why, e, d)))

pub returns-clause-value : goal.returns-clause-value
unfolding refusal_in
returns-clause-value c =
    let a = c.args in
    let d = c.of_faces-family in
    let w = whole a.fonts.now a.count c.take_family.new.rows c.in_ok-take_family.ensures.taken in
    let q = c.choose.ensures.value ∙ ap (λ (f : Family). choice f c.request_of.result) d.ensures.0 ∙ w.choice_of c.request_of.result ∙ ap (choice (family_of a.fonts.now a.count)) c.request_of.ensures in
    let e = ap refusal_in (sym c.in_ok-take_family.was) ∙ c.take_family.ensures.value in
    answers d.result.count _ c.choose.result q c.choose.ensures.within
    ∙ ap (λ (n : ℕ). answered n (choice (family_of a.fonts.now a.count) (request_of a.request a.synthesize_style))) d.ensures.1
    ∙ sym (accepted a.fonts.now a.count a.request a.synthesize_style (sym e))
