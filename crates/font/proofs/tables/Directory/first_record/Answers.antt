use mathlib.Core.Path.{sym, ap, ◌∙◌}
use borrow.Author.Tests.{eq-eqb, ne_eqb}
use native.Mathlib.Omega.{arith}
use Rattle.font.specs.Tables.{first_record, record_tag, record_count, swap_bytes}
use Rattle.font.proofs.First.{none_start, none_more, none_of_fewer, found}
use Rattle.font.proofs.Fields.{swapped_apart, turned}
use Rattle.font.proofs.Lookup.{records_inside}
use Rattle.font.proofs.tables.Directory.first_record.Goals as goal

pub overflow_add-self : goal.overflow_add-self
overflow_add-self c = omega (arith, records_inside _ _ c.args.self.fits)

pub u16_in-count-requires : goal.u16_in-count-requires
u16_in-count-requires c = omega (arith, records_inside _ _ c.args.self.fits)

pub loop-i-init : goal.loop-i-init
loop-i-init c = none_start _

pub returns-then-swapped_u32_in-wanted : goal.returns-then-swapped_u32_in-wanted
unfolding first_record record_tag record_count
returns-then-swapped_u32_in-wanted c = (
  found _ _ _ c.loop-i.invariant (eq-eqb _ _ (swapped_apart _ _ c.swapped_u32_in.ensures.1 (omega arith) (sym c.swapped_u32_in.ensures.0 ∙ c.if-swapped_u32_in-wanted.true ∙ c.swap_bytes-wanted.ensures ∙ turned _ (omega arith)))) (omega (arith, c.u16_in-count.ensures)),
  omega (arith, c.u16_in-count.ensures),
)

pub loop-i-preserved : goal.loop-i-preserved
unfolding record_tag
loop-i-preserved c = none_more _ _ c.loop-i.invariant (ne_eqb _ _ (λ e. c.if-swapped_u32_in-wanted.false (c.swapped_u32_in.ensures.0 ∙ ap swap_bytes e ∙ sym (c.swap_bytes-wanted.ensures ∙ turned _ (omega arith)))))

pub returns : goal.returns
unfolding first_record record_tag record_count
returns c = rw (← c.u16_in-count.ensures) (none_of_fewer _ _ _ c.loop-i-test.false c.loop-i.invariant)
