use mathlib.Core.Path.{refl}
use Rattle.std.proofs.lemmas.Result.{err_from_is_err_and}
use Rattle.font.proofs.Refusals.{not_zero}
use Rattle.query.specs.Reader.{end_in}
use Rattle.query.proofs.Counted.{no_count, section_read}
use Rattle.query.proofs.sections.read_section.Goals as goal

pub returns-in_err-next : goal.returns-in_err-next
unfolding end_in
returns-in_err-next g c =
    let p = err_from_is_err_and c.from_residual.result c.from_residual.ensures.1 in
    λ section is reads.
    let none = no_count section _ _ _ _ (rw is at c.in_err-next.ensures) (not_zero _) in
    record { value = rw (p.1, p.2) none.0; noted = none.1 }

pub returns : goal.returns
unfolding end_in
returns g c = λ section is reads.
    let run = c.entry_run.ensures.ends section _ reads in
    let all = section_read section _ _ _ _ (rw is at c.in_ok-next.ensures) refl _ c.u16_at-entries.ensures run.value run.noted c.entry_run.ensures.kept in
    record { value = all.0; noted = all.1 }
