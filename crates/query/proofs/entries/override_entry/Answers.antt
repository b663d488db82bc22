use mathlib.Core.Path.{◌≡◌, sym, ◌∙◌}
use Rattle.query.specs.Entries.{read_override}
use Rattle.query.proofs.Leaves.{mask_read}
use Rattle.query.proofs.Ends.{refuses, goes_on, ends}
use Rattle.query.proofs.entries.override_entry.Goals as goal

pub returns-in_err-face : goal.returns-in_err-face
unfolding read_override
returns-in_err-face c = refuses _ _ _ _ _ _ c.from_residual.ensures.1 c.in_err-face.ensures

pub returns-in_err-mask : goal.returns-in_err-mask
unfolding read_override
returns-in_err-mask c =
    goes_on _ _ _ _ c.in_ok-face.ensures (λ v e. refuses _ _ _ _ _ _ c.from_residual-in_err-mask.ensures.1 c.in_err-mask.ensures)

pub returns-in_err-given : goal.returns-in_err-given
unfolding read_override
returns-in_err-given c =
    goes_on _ _ _ _ c.in_ok-face.ensures
    (λ v e. goes_on _ _ _ _ c.in_ok-mask.ensures
    (λ m g. let byte : m ≡ c.byte_at.result = (mask_read _ _ _ _ g).value ∙ sym c.byte_at.ensures in
    refuses _ _ _ _ _ _ c.from_residual-in_err-given.ensures.1 (rw (sym byte) at c.in_err-given.ensures)))

pub returns : goal.returns
unfolding read_override
returns c =
    goes_on _ _ _ _ c.in_ok-face.ensures
    (λ v e. goes_on _ _ _ _ c.in_ok-mask.ensures
    (λ m g. goes_on _ _ _ _ (rw ((mask_read _ _ _ _ g).value ∙ sym c.byte_at.ensures) c.in_ok-given.ensures)
    (λ w h. ends _ _ _ _ c.pairs.ensures)))
