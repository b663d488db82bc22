use Rattle.query.specs.Entries.{read_requested}
use Rattle.query.proofs.Ends.{refuses, goes_on, ends}
use Rattle.query.proofs.entries.requested.Goals as goal

pub returns-in_err-width : goal.returns-in_err-width
unfolding read_requested
returns-in_err-width c = refuses _ _ _ _ _ _ c.from_residual.ensures.1 c.in_err-width.ensures

pub returns-in_err-style : goal.returns-in_err-style
unfolding read_requested
returns-in_err-style c =
    goes_on _ _ _ _ c.in_ok-width.ensures (λ v e. refuses _ _ _ _ _ _ c.from_residual-in_err-style.ensures.1 c.in_err-style.ensures)

pub returns : goal.returns
unfolding read_requested
returns c =
    goes_on _ _ _ _ c.in_ok-width.ensures (λ v e. goes_on _ _ _ _ c.in_ok-style.ensures (λ w g. ends _ _ _ _ c.value.ensures))
