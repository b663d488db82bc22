use mathlib.Core.Path.{refl, sym}
use Rattle.std.proofs.Common.{rules}
use Rattle.font.specs.StatedAttributes.{bit}
use Rattle.font.proofs.Classes.{lowest}
use Rattle.query.specs.Entries.{read_given, read_width, read_weight}
use Rattle.query.proofs.Leaves.{or_spare_ends}
use Rattle.query.proofs.Ends.{refuses, goes_on, ends}
use Rattle.query.proofs.entries.given.Goals as goal

pub returns-in_err-width : goal.returns-in_err-width
unfolding read_given read_width read_weight bit
returns-in_err-width c =
    refuses _ _ _ _ _ _ c.from_residual.ensures.1
    (or_spare_ends _ _ _ _ _ _ _ (sym (lowest c.args.mask)) (λ t. let h = c.in_err-width.ensures.given t in search rules) c.in_err-width.ensures.spare)

pub returns-in_err-style : goal.returns-in_err-style
unfolding read_given read_width read_weight bit
returns-in_err-style c =
    goes_on _ _ _ _
    (or_spare_ends _ _ _ _ _ _ _ (sym (lowest c.args.mask)) (λ t. let h = c.in_ok-width.ensures.given t in search rules) c.in_ok-width.ensures.spare)
    (λ v e. refuses _ _ _ _ _ _ c.from_residual-in_err-style.ensures.1 c.in_err-style.ensures)

pub returns : goal.returns
unfolding read_given read_width read_weight bit
returns c =
    goes_on _ _ _ _
    (or_spare_ends _ _ _ _ _ _ _ (sym (lowest c.args.mask)) (λ t. let h = c.in_ok-width.ensures.given t in search rules) c.in_ok-width.ensures.spare)
    (λ v e. goes_on _ _ _ _ c.in_ok-style.ensures
    (λ w g. ends _ _ _ _
    (or_spare_ends _ _ _ _ _ _ _ refl (λ t. let h = c.or_spare-2.ensures.given t in search rules) c.or_spare-2.ensures.spare)))
