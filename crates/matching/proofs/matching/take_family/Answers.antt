use Rattle.std.proofs.Common.{rules, Err, ◌≡◌, ◌∙◌}
use Rattle.font.specs.Refusals.{refusal_in}
use Rattle.matching.proofs.Taken.{family_refuses, faces_err}
use Rattle.matching.proofs.matching.take_family.Goals as goal

pub returns-in_err-take_faces-clause-value : goal.returns-in_err-take_faces-clause-value
unfolding refusal_in
returns-in_err-take_faces-clause-value c =
    let a = c.args in
    let why = c.in_err-take_faces.field-0.0 in
    let z : c.from_residual.result ≡ Err why = search rules in
    rw z (faces_err a.fonts.now a.count a.request why c.in_err-take_faces.ensures.value)

pub returns-clause-value : goal.returns-clause-value
unfolding refusal_in
returns-clause-value c = c.request_refusal.ensures ∙ family_refuses c.args.fonts.now c.args.count c.args.request c.in_ok-take_faces.ensures.value
