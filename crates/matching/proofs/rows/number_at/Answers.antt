use Rattle.std.proofs.Common.{arith, ◌≡◌, ◌+◌, ◌*◌, length, sym, ◌∙◌}
use borrow.Author.Tests.{eqb-false}
use Rattle.font.proofs.Fields.{in16}
use Rattle.matching.specs.Rows.{number_at}
use Rattle.matching.proofs.rows.number_at.Goals as goal

pub returns-then-is_empty : goal.returns-then-is_empty
unfolding number_at
returns-then-is_empty c = (sym (rw (sym c.if-is_empty.ensures)), omega arith)

pub returns : goal.returns
unfolding number_at
returns c =
    let i = 2 * c.args.place in
    let s = c.args.members.now in
    let e : length s ≡ 0 → ⊥ = eqb-false _ _ (sym c.if-is_empty.ensures) in (
      in16 s i (omega (arith, c.requires.1 e)) ∙ sym (rw (sym c.if-is_empty.ensures)),
      omega (arith, c.type_inv.members i, c.type_inv.members (i + 1)),
    )
