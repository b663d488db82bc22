use mathlib.Core.Path.{sym, ◌∙◌}
use mathlib.Core.Bool.{Bool, true, false}
use Rattle.std.specs.Prelude.{◌≡◌}
use Rattle.query.proofs.CodeAnswers.{reading_kept, reading_long}
use Rattle.query.proofs.call.reading_over.Goals as goal
use Rattle.query.proofs.call.reading_over.Goals.{else-is_err-via-then-is_err+else-job-gt-MOST_BYTES, else-is_err-via-else-is_err}

pub returns-then-job-gt-MOST_BYTES : goal.returns-then-job-gt-MOST_BYTES
returns-then-job-gt-MOST_BYTES c =
    reading_long _ _ c.try_from-known.result c.try_from-known.ensures (sym c.is_err.ensures.value ∙ c.if-is_err.true) c.if-job-gt-MOST_BYTES.true

pub returns : goal.returns
returns c =
    reading_kept _ _ c.try_from-known.result c.try_from-known.ensures
    (λ e.
    elim c.else-is_err.branch [
      | else-is_err-via-then-is_err+else-job-gt-MOST_BYTES w ↦ w.if-job-gt-MOST_BYTES.false
      | else-is_err-via-else-is_err w ↦ absurd (let z : ◌≡◌ {A = Bool} false true = sym w.if-is_err.false ∙ c.is_err.ensures.value ∙ e in cc)
    ])
