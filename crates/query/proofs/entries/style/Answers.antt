use Prim.Native.Nat.{ℕ}
use Rattle.std.proofs.Common.{rules}
use mathlib.Core.Path.{sym, ap, ◌∙◌}
use lib.Dec.{eqb}
use Rattle.query.specs.Entries.{read_style, read_angle}
use Rattle.query.proofs.Leaves.{kind_read, or_spare_ends}
use Rattle.query.proofs.Ends.{refuses, goes_on, ends}
use Rattle.query.proofs.entries.style.Goals as goal

pub returns-in_err-kind : goal.returns-in_err-kind
unfolding read_style
returns-in_err-kind c = refuses _ _ _ _ _ _ c.from_residual.ensures.1 c.in_err-kind.ensures

pub returns : goal.returns
unfolding read_style read_angle
returns c =
    goes_on _ _ _ _ c.in_ok-kind.ensures
    (λ k e. ends _ _ _ _
    (or_spare_ends _ _ _ _ _ _ _ (ap (λ (x : ℕ). eqb x 3) (c.byte_at-stated.ensures ∙ sym (kind_read _ _ _ _ e).value))
    (λ t. let h = c.or_spare.ensures.given t in search rules) c.or_spare.ensures.spare))
