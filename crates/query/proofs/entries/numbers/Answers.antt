use mathlib.Core.Path.{refl, sym, ◌∙◌}
use native.Mathlib.Omega.{arith}
use Rattle.query.specs.Reader.{end_in}
use Rattle.query.specs.Fields.{byte, byte_counted}
use Rattle.query.proofs.Leaves.{byte_at, byte_read}
use Rattle.query.proofs.Ends.{refuses, goes_on, got_there}
use Rattle.query.proofs.entries.numbers.Goals as goal

pub returns-in_err-count : goal.returns-in_err-count
unfolding byte_counted byte
returns-in_err-count c = refuses byte _ _ _ _ _ c.from_residual.ensures.1 (c.in_err-count.ensures byte_at)

pub halves-requires : goal.halves-requires
unfolding byte end_in
halves-requires c =
    let g = got_there (c.in_ok-count.ensures byte_at) refl in
    let at = byte_read _ _ _ _ g.1 in
    (omega (arith, at.next, at.inside), omega arith)

pub returns : goal.returns
unfolding byte_counted byte
returns c = goes_on byte _ _ _ (c.in_ok-count.ensures byte_at) (λ n e. rw ((byte_read _ _ _ _ e).value ∙ sym c.byte_at.ensures) c.halves.ensures)
