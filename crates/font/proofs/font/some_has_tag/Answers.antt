use Prim.Native.Nat.{ℕ, ◌+◌, ◌*◌}
use mathlib.Core.Path.{◌≡◌, sym, ap, ◌∙◌}
use mathlib.Core.List.{List}
use native.Mathlib.Omega.{arith}
use borrow.Author.Tests.{eq-eqb, ne_eqb}
use Rattle.font.specs.Tables.{u32_at}
use Rattle.font.specs.Font.{axis_at}
use Rattle.font.proofs.First.{some_start, some_more, some_found}
use Rattle.font.proofs.font.some_has_tag.Goals as goal

-- the tag of a record, by the offset that was read once
tag_at : (fvar : List ℕ) (offset i x : ℕ) → offset ≡ x → u32_at fvar (offset + 20 * i) ≡ u32_at fvar (x + 20 * i)
tag_at fvar offset i x e = ap (λ (n : ℕ). u32_at fvar (n + 20 * i)) e

pub loop-i-init : goal.loop-i-init
loop-i-init c = some_start _

pub returns-then-u32_at-tag : goal.returns-then-u32_at-tag
unfolding axis_at
returns-then-u32_at-tag c =
    some_found _ c.loop-i.i _ (omega arith)
    (eq-eqb _ _ (sym (c.u32_at.ensures ∙ tag_at _ _ _ _ c.u16_at-offset.ensures) ∙ c.if-u32_at-tag.true))

pub loop-i-preserved : goal.loop-i-preserved
unfolding axis_at
loop-i-preserved c =
    some_more _ _ c.loop-i.invariant
    (ne_eqb _ _ (λ e. c.if-u32_at-tag.false (c.u32_at.ensures ∙ tag_at _ _ _ _ c.u16_at-offset.ensures ∙ e)))

pub returns : goal.returns
returns c =
    let end : c.loop-i.i ≡ c.args.count = omega arith in
    sym (rw end at c.loop-i.invariant)
