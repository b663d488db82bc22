use native.Mathlib.Omega.{arith}
use mathlib.Core.Path.{refl, ap}
use Rattle.font.specs.Refusals as Refusals
use Rattle.std.proofs.lemmas.Result.{err_from_is_err_and}
use Rattle.font.proofs.Refusals.{not_zero}
use Rattle.query.specs.declared.fields.Behind.{Behind}
use Rattle.query.specs.Reader.{end_in}
use Rattle.query.specs.Fields.{font_file, sized_file, numbered}
use Rattle.query.proofs.Ends.{refuses}
use Rattle.query.proofs.Fonts.{file_end_lem, header_refused, number_refused, font_taken_lem, font_refused}
use Rattle.query.proofs.fields.font_file.Goals as goal

pub returns-in_err-end : goal.returns-in_err-end
unfolding font_file
returns-in_err-end c = refuses sized_file (numbered c.args.at) _ _ _ _ c.from_residual.ensures.1 c.in_err-end.ensures

pub overflow_add-file : goal.overflow_add-file
unfolding end_in
overflow_add-file c = omega (arith, file_end_lem _ _ c.in_ok-end.ensures refl)

pub slice_bounds-file-count : goal.slice_bounds-file-count
unfolding end_in
slice_bounds-file-count c = omega (arith, file_end_lem _ _ c.in_ok-end.ensures refl)

pub slice_bounds-file-start : goal.slice_bounds-file-start
unfolding end_in
slice_bounds-file-start c = omega (arith, file_end_lem _ _ c.in_ok-end.ensures refl)

pub slice_bounds-file-end : goal.slice_bounds-file-end
unfolding end_in
slice_bounds-file-end c = omega (arith, file_end_lem _ _ c.in_ok-end.ensures refl)

pub returns-then-file-lt12 : goal.returns-then-file-lt12
unfolding end_in Refusals.number
returns-then-file-lt12 c = header_refused _ _ c.in_ok-end.ensures refl refl c.if-file-lt12.true

pub returns-in_err-next : goal.returns-in_err-next
unfolding end_in
returns-in_err-next c =
    let p = err_from_is_err_and c.from_residual-in_err-next.result c.from_residual-in_err-next.ensures.1 in
    rw (p.1, p.2) (number_refused _ _ c.in_ok-end.ensures refl refl c.in_err-next.ensures (not_zero _))

pub behind_file-behind-requires : goal.behind_file-behind-requires
unfolding end_in
behind_file-behind-requires c = omega (arith, file_end_lem _ _ c.in_ok-end.ensures refl, c.well_formed)

pub returns-in-Ok : goal.returns-in-Ok
unfolding end_in Refusals.refusal_in
returns-in-Ok c =
    font_taken_lem _ _ c.in_ok-end.ensures refl refl c.in_ok-next.ensures refl
    (ap (λ (b : Behind). b.number) c.behind_file-behind.ensures) c.in-Ok.ensures refl

pub returns-in-Err : goal.returns-in-Err
unfolding end_in Refusals.refusal_in
returns-in-Err c =
    font_refused _ _ c.in_ok-end.ensures refl refl c.in_ok-next.ensures refl
    (ap (λ (b : Behind). b.number) c.behind_file-behind.ensures) c.in-Err.ensures (not_zero _)
