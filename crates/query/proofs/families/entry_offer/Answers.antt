-- The family that lies at the position, by the part of the job that holds its face numbers.
use mathlib.Core.Path.{◌≡◌, refl, sym, ◌∙◌}
use Rattle.font.specs.Tables.{u16_at}
use Rattle.matching.specs.Rows.{family_of_rows}
use Rattle.query.specs.Offers.{pick}
use Rattle.query.specs.CallTables.{held_row}
use Rattle.query.specs.Listed.{members_at, offers_at}
use Rattle.query.proofs.Members.{members_part, places_there}
use Rattle.query.proofs.FamilyLists.{none_offered}
use Rattle.query.proofs.families.entry_offer.Goals as goal

pub returns-then-count-eq0 : goal.returns-then-count-eq0
unfolding pick offers_at
returns-then-count-eq0 c =
    let a = c.args in
    let none : u16_at a.job.now a.at ≡ 0 = sym c.u16_at-count.ensures ∙ c.if-count-eq0.true in
    rw (none_offered (family_of_rows a.rows.now (members_at a.job.now a.at) (u16_at a.job.now a.at)) (held_row a.rows.now (members_at a.job.now a.at)) a.request none) refl

pub invariant_of-family : goal.invariant_of-family
invariant_of-family c =
    let number = c.u16_at-count.ensures in
    record {
      placed = rw (members_part c.args.job.now c.args.at _ number, number)
          (places_there c.args.job.now c.args.at c.args.rows.now c.requires.1 (λ e. c.if-count-eq0.false (number ∙ e)));
    }

pub returns : goal.returns
unfolding offers_at
returns c =
    let number = c.u16_at-count.ensures in
    rw (members_part c.args.job.now c.args.at _ number, number) at c.family_offer.ensures
