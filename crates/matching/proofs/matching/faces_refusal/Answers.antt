-- The invariant: the refusal is that of the faces passed.
use Rattle.std.proofs.Common.{arith, ◌≡◌, sym, ◌∙◌, ap}
use Rattle.std.proofs.lemmas.List.{get_or-take}
use Rattle.font.specs.Refusals.{refusal_in, number}
use Rattle.font.specs.Overrides.{face_refusal}
use Rattle.font.specs.declared.font.FontInfo.{FontInfo}
use Rattle.matching.specs.Matching.{no_face}
use Rattle.matching.specs.Rows.{either_refusal}
use Rattle.matching.proofs.Taken.{refusal_below, refusal_none, refusal_more, refusal_all, faces_over}
use Rattle.matching.proofs.matching.faces_refusal.Goals as goal

pub returns-then-count-gt64-clause-value : goal.returns-then-count-gt64-clause-value
unfolding refusal_in number
returns-then-count-gt64-clause-value c = sym (faces_over c.args.fonts.now c.args.count c.if-count-gt64.true)

pub loop-font-init : goal.loop-font-init
unfolding refusal_in
loop-font-init c = refusal_none c.args.fonts.now

pub loop-font-preserved : goal.loop-font-preserved
loop-font-preserved c =
    let a = c.args in
    let l = c.loop-font in
    refusal_more a.fonts.now l.font-index l.invariant
    (c.either_refusal-found.ensures
    ∙ ap (λ (f : FontInfo). either_refusal (refusal_in l.found) (face_refusal f)) (get_or-take a.count a.fonts.now l.font-index no_face (omega arith)))

pub returns-clause-value : goal.returns-clause-value
returns-clause-value c =
    let a = c.args in
    let l = c.loop-font in
    let end : l.font-index ≡ a.count = omega arith in
    l.invariant ∙ ap (refusal_below a.fonts.now) end ∙ refusal_all a.fonts.now a.count c.if-count-gt64.false
