-- What the scans find is the choice: the last part of proofs/Scans.antt.
use Rattle.std.proofs.Common.{rules, arith, ◌∙◌, ap, sym}
use borrow.Author.Tests.{lt-ltb}
use Rattle.matching.specs.declared.rows.Row.{Row}
use Rattle.matching.specs.Matching.{place_or}
use Rattle.matching.specs.Packed.{width_rank, style_rank, weight_rank}
use Rattle.matching.specs.Order.{choice}
use Rattle.matching.specs.FamilyRows.{family_in}
use Rattle.matching.proofs.Scans.{lead_in, none_in, bearer_in, chosen_in, chosen_is}
use Rattle.matching.proofs.rows.FamilyRows.choose.Goals as goal

pub returns-then-self-eq1-clause-value : goal.returns-then-self-eq1-clause-value
unfolding choice place_or
returns-then-self-eq1-clause-value c = sym (rw (lt-ltb c.args.self.count 2 c.if-self-lt2.true))

pub returns-else-self-eq1-clause-value : goal.returns-else-self-eq1-clause-value
unfolding choice place_or
returns-else-self-eq1-clause-value c = rw (lt-ltb c.args.self.count 2 c.if-self-lt2.true) (omega arith)

pub row-percent-requires : goal.row-percent-requires
row-percent-requires c =
    let s = c.args.self in
    let q = c.args.request in
    lead_in (family_in s) q s.placed.few c.if-self-lt2.false (c.least.ensures (width_rank q) (λ i r l p. search rules)) c.place_of-first.ensures

pub returns-then-best-clause-value : goal.returns-then-best-clause-value
unfolding place_or
returns-then-best-clause-value c =
    let s = c.args.self in
    let q = c.args.request in
    none_in (family_in s) q s.placed.few c.if-self-lt2.false (c.least.ensures (width_rank q) (λ i r l p. search rules)) c.place_of-first.ensures
    (ap (λ (r : Row). r.percent) c.row-percent.ensures) c.slant_at-slant.ensures
    (c.least-best.ensures (style_rank q c.row-percent.result.percent c.slant_at-slant.result) (λ i r l p. search rules))
    c.if-best.true

pub row-style-requires : goal.row-style-requires
row-style-requires c =
    let s = c.args.self in
    let q = c.args.request in
    bearer_in (family_in s) q s.placed.few c.if-self-lt2.false (c.least.ensures (width_rank q) (λ i r l p. search rules)) c.place_of-first.ensures
    (ap (λ (r : Row). r.percent) c.row-percent.ensures) c.slant_at-slant.ensures
    (c.least-best.ensures (style_rank q c.row-percent.result.percent c.slant_at-slant.result) (λ i r l p. search rules))
    c.if-best.false c.place_of.ensures

pub returns : goal.returns
unfolding place_or
returns c =
    let s = c.args.self in
    let q = c.args.request in
    let width = c.least.ensures (width_rank q) (λ i r l p. search rules) in
    let style = c.least-best.ensures (style_rank q c.row-percent.result.percent c.slant_at-slant.result) (λ i r l p. search rules) in
    let weight = c.least-lead.ensures (weight_rank q c.row-percent.result.percent c.row-style.result.style) (λ i r l p. search rules) in
    let percent = ap (λ (r : Row). r.percent) c.row-percent.ensures in
    let bears = ap (λ (r : Row). r.style) c.row-style.ensures in
    record {
      value =
          c.place_of-2.ensures
          ∙ chosen_is (family_in s) q s.placed.few c.if-self-lt2.false width c.place_of-first.ensures percent c.slant_at-slant.ensures style c.if-best.false c.place_of.ensures bears weight;
      within = rw c.place_of-2.ensures (chosen_in (family_in s) q s.placed.few c.if-self-lt2.false width c.place_of-first.ensures percent c.slant_at-slant.ensures style c.if-best.false c.place_of.ensures bears weight);
    }
