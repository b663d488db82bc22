use Rattle.std.proofs.Common.{rules, arith, ◌≡◌, ℕ, Err, cond, eqb, sym, ◌∙◌, ap}
use borrow.Author.Tests.{eq-eqb, ne_eqb}
use Rattle.font.specs.Refusals.{refusal_in}
use Rattle.matching.specs.Matching.{family_of, faces_refusal, default_place}
use Rattle.matching.specs.Family.{made_in, made_of}
use Rattle.font.proofs.Refusals.{some_number}
use Rattle.matching.proofs.Taken.{whole}
use Rattle.matching.proofs.family.FamilyInfo.new.Goals as goal

kept : (r d : ℕ) → r ≡ 0 → d ≡ cond (eqb r 0) d 0
kept r d e = sym (rw (eq-eqb r 0 e))

zero_unless : (r d : ℕ) → (r ≡ 0 → ⊥) → ◌≡◌ {A = ℕ} 0 (cond (eqb r 0) d 0)
zero_unless r d h = sym (rw (ne_eqb r 0 h))

pub returns-in_err-take_faces : goal.returns-in_err-take_faces
unfolding refusal_in made_in made_of
returns-in_err-take_faces c =
    let a = c.args in
    let why = c.in_err-take_faces.field-0.0 in
    let e = c.in_err-take_faces.ensures.value in
    let z : c.from_residual.result ≡ Err why = search rules in
    let none = zero_unless (faces_refusal a.fonts a.count) (default_place (family_of a.fonts a.count)) (λ d. omega (arith, some_number why, e, d)) in
    rw z (λ k. record { refusal = e k; family = record { fonts = a.fonts; count = a.count; default_font = none k } })

pub returns : goal.returns
unfolding refusal_in made_in made_of
returns c =
    let a = c.args in
    let e = c.in_ok-take_faces.ensures.value in
    let w = whole a.fonts a.count c.take_faces.new.rows c.in_ok-take_faces.ensures.taken in
    let placed = c.default_place.ensures ∙ ap default_place c.of_faces-family.ensures.0 ∙ w.default_of ∙ kept (faces_refusal a.fonts a.count) (default_place (family_of a.fonts a.count)) (sym e) in
    λ k. record { refusal = e k; family = record { fonts = a.fonts; count = a.count; default_font = placed k } }
