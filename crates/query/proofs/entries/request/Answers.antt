use Rattle.font.specs.Tables.{u16_at}
use Rattle.query.specs.Fields.{half}
use Rattle.query.specs.Entries.{read_request}
use Rattle.query.proofs.Ends.{refuses, goes_on, ends}
use Rattle.query.proofs.entries.request.Goals as goal

pub returns-in_err-most : goal.returns-in_err-most
unfolding read_request half
returns-in_err-most c = refuses half _ _ _ _ _ c.from_residual.ensures.1 (c.in_err-most.ensures u16_at)

pub returns-in_err-attributes : goal.returns-in_err-attributes
unfolding read_request half
returns-in_err-attributes c =
    goes_on half _ _ _ (c.in_ok-most.ensures u16_at)
    (λ v e. refuses _ _ _ _ _ _ c.from_residual-in_err-attributes.ensures.1 c.in_err-attributes.ensures)

pub returns-in_err-families : goal.returns-in_err-families
unfolding read_request half
returns-in_err-families c =
    goes_on half _ _ _ (c.in_ok-most.ensures u16_at)
    (λ v e. goes_on _ _ _ _ c.in_ok-attributes.ensures
    (λ w g. refuses _ _ _ _ _ _ c.from_residual-in_err-families.ensures.1 c.in_err-families.ensures))

pub returns : goal.returns
unfolding read_request half
returns c =
    goes_on half _ _ _ (c.in_ok-most.ensures u16_at)
    (λ v e. goes_on _ _ _ _ c.in_ok-attributes.ensures
    (λ w g. goes_on _ _ _ _ c.in_ok-families.ensures (λ u h. ends _ _ _ _ c.numbers-2.ensures)))
