use mathlib.Core.Path.{refl}
use native.Mathlib.Omega.{arith}
use Rattle.std.proofs.lemmas.Result.{err_from_is_err_and}
use Rattle.font.proofs.Refusals.{not_zero}
use Rattle.query.specs.Reader.{end_in}
use Rattle.query.proofs.NotedEntries.{started, stopped, onward, finished, kept_on}
use Rattle.query.proofs.sections.entry_run.Goals as goal

pub loop-i-init : goal.loop-i-init
loop-i-init g c = record { passed = λ section s reads. started _ _ _ _ _ _; kept = record { kept = λ k l. refl } }

pub returns-in_err-next : goal.returns-in_err-next
unfolding end_in
returns-in_err-next g c =
    let p = err_from_is_err_and c.from_residual.result c.from_residual.ensures.1 in
    record {
      ends = λ section s reads.
          let end = stopped _ _ _ _ _ (c.loop-i.invariant.passed section s reads) c.loop-i-test.true (reads _ _ c.in_err-next.ensures) (not_zero _) in
          record { value = rw (p.1, p.2) end.0; noted = end.1 };
      kept = c.loop-i.invariant.kept;
    }

pub note-requires : goal.note-requires
note-requires g c = c.requires.begins _ _ c.in_ok-next.ensures

pub loop-i-preserved : goal.loop-i-preserved
unfolding end_in
loop-i-preserved g c =
    let inv = c.loop-i.invariant in
    record {
      passed = λ section s reads. onward _ _ _ _ _ (inv.passed section s reads) c.loop-i-test.true (reads _ _ c.in_ok-next.ensures) refl c.note.ensures;
      kept = kept_on (omega arith) c.note.ensures inv.kept;
    }

pub returns : goal.returns
unfolding end_in
returns g c =
    record {
      ends = λ section s reads.
          let end = finished _ _ _ _ _ (c.loop-i.invariant.passed section s reads) c.loop-i-test.false in
          record { value = end.0; noted = end.1 };
      kept = c.loop-i.invariant.kept;
    }
