use borrow.Author.Rules.{rules}
use mathlib.Core.Path.{refl}
use Rattle.std.proofs.lemmas.Result.{err_from_is_err_and}
use Rattle.font.proofs.Refusals.{not_zero}
use Rattle.query.specs.Reader.{end_in}
use Rattle.query.specs.Sections.{Faces, Overrides, Families}
use Rattle.query.specs.Positions.{asked_in, walk_in}
use Rattle.query.proofs.Leaves.{entry_begins}
use Rattle.query.proofs.WalkCases.{refused_sections, no_faces, no_overrides, no_families, no_last, walked}
use Rattle.query.proofs.job.whole.Goals as goal

pub read_section-requires-clause-begins : goal.read_section-requires-clause-begins
read_section-requires-clause-begins c = λ p q h. entry_begins Faces c.args.job.now p q c.requires (search rules)

pub read_section-requires-2-clause-begins : goal.read_section-requires-2-clause-begins
read_section-requires-2-clause-begins c = λ p q h. entry_begins (Overrides c.u16_at-faces.result) c.args.job.now p q c.requires (search rules)

pub read_section-requires-3-clause-begins : goal.read_section-requires-3-clause-begins
read_section-requires-3-clause-begins c = λ p q h. entry_begins (Families c.u16_at-faces.result) c.args.job.now p q c.requires (search rules)

pub returns-in_err-overrides : goal.returns-in_err-overrides
unfolding end_in walk_in
returns-in_err-overrides c =
    let p = err_from_is_err_and c.from_residual.result c.from_residual.ensures.1 in
    rw (p.1, p.2) (refused_sections (no_faces _ (c.in_err-overrides.ensures Faces refl (λ p x h. search rules)).value (not_zero _)) (not_zero _))

pub returns-in_err-second : goal.returns-in_err-second
unfolding end_in walk_in
returns-in_err-second c =
    let p = err_from_is_err_and c.from_residual-in_err-second.result c.from_residual-in_err-second.ensures.1 in
    let end = no_overrides _ (c.in_ok-overrides.ensures Faces refl (λ p x h. search rules)).value refl c.u16_at-faces.ensures (c.in_err-second.ensures (Overrides c.u16_at-faces.result) refl (λ p x h. search rules)).value (not_zero _) in
    rw (p.1, p.2) (refused_sections end (not_zero _))

pub returns-in_err-third : goal.returns-in_err-third
unfolding end_in walk_in
returns-in_err-third c =
    let p = err_from_is_err_and c.from_residual-in_err-third.result c.from_residual-in_err-third.ensures.1 in
    let end = no_families _ (c.in_ok-overrides.ensures Faces refl (λ p x h. search rules)).value refl c.u16_at-faces.ensures (c.in_ok-second.ensures (Overrides c.u16_at-faces.result) refl (λ p x h. search rules)).value refl (c.in_err-third.ensures (Families c.u16_at-faces.result) refl (λ p x h. search rules)).value (not_zero _) in
    rw (p.1, p.2) (refused_sections end (not_zero _))

pub returns-in_err-request : goal.returns-in_err-request
unfolding end_in asked_in walk_in
returns-in_err-request c =
    let p = err_from_is_err_and c.from_residual-in_err-request.result c.from_residual-in_err-request.ensures.1 in
    rw (p.1, p.2)
    (no_last _ (c.in_ok-overrides.ensures Faces refl (λ p x h. search rules)).value refl c.u16_at-faces.ensures (c.in_ok-second.ensures (Overrides c.u16_at-faces.result) refl (λ p x h. search rules)).value refl (c.in_ok-third.ensures (Families c.u16_at-faces.result) refl (λ p x h. search rules)).value refl
    c.in_err-request.ensures (not_zero _))

pub returns : goal.returns
unfolding end_in asked_in walk_in
returns c =
    let families = c.in_ok-third.ensures (Families c.u16_at-faces.result) refl (λ p x h. search rules) in
    walked _ (c.in_ok-overrides.ensures Faces refl (λ p x h. search rules)).value refl c.u16_at-faces.ensures (c.in_ok-second.ensures (Overrides c.u16_at-faces.result) refl (λ p x h. search rules)).value refl families.value refl c.in_ok-request.ensures
    families.noted
