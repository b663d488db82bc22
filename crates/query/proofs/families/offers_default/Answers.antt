use mathlib.Core.Path.{◌≡◌, refl, sym, ◌∙◌, ap}
use mathlib.Core.Bool.{Bool, true, false, not, ◌&&◌}
use borrow.Author.Tests.{lt-ltb, le-ltb}
use lib.Dec.{ltb}
use Rattle.matching.specs.Matching.{place_or}
use Rattle.matching.specs.Rows.{place_row}
use Rattle.query.specs.CallTables.{is_held, held_row}
use Rattle.query.specs.Listed.{equals_chosen, equals_row, default_offered}
use Rattle.query.proofs.FamilyLists.{by_chosen_row}
use Rattle.query.proofs.families.offers_default.Goals as goal
use Rattle.query.proofs.families.offers_default.Goals.{then-default-family, else-default-family, Joined-default-family}

-- the first two tests
held : (c : Joined-default-family) → c.if-default-family.value ≡ ltb c.args.default c.args.family.count && held_row c.args.family.rows.now c.args.family.members.now c.args.default
unfolding held_row
held c =
    elim c.if-default-family.branch [
      | then-default-family w ↦ rw (lt-ltb c.args.default c.args.family.count w.if-default-family.true) (w.value-is ∙ w.is_held.ensures ∙ ap is_held w.row.ensures)
      | else-default-family w ↦ w.value-is ∙ rw (le-ltb c.args.default c.args.family.count w.if-default-family.false) refl
    ]

-- and all three
both : (a b e : Bool) → a && b ≡ true → not e ≡ a && (b && not e)
both true true e h = refl
both true false e h = cc
both false b e h = cc

none : (a b e : Bool) → a && b ≡ false → false ≡ a && (b && not e)
none true true e h = cc
none true false e h = refl
none false b e h = refl

pub returns-then-is_held : goal.returns-then-is_held
unfolding default_offered
returns-then-is_held c =
    let family = c.args.family in
    let d = c.args.default in
    let equals = equals_chosen family.rows.now family.members.now family.count (place_or family.count c.args.chosen) in
    let found = c.equals_chosen.ensures
    ∙ ap (λ w. equals_row w c.row-then-is_held.result) c.chosen_row.ensures
    ∙ by_chosen_row family.rows.now family.members.now family.count (place_or family.count c.args.chosen) c.row-then-is_held.result
    ∙ ap equals c.row-then-is_held.ensures in
    ap not found
    ∙ both (ltb d family.count) (held_row family.rows.now family.members.now d) (equals (place_row family.rows.now family.members.now d))
    (sym (held (goal.at.returns-then-is_held c).Joined-default-family) ∙ c.if-is_held.true)

pub returns-else-is_held : goal.returns-else-is_held
unfolding default_offered
returns-else-is_held c =
    let family = c.args.family in
    let d = c.args.default in
    c.if-is_held.false
    ∙ none (ltb d family.count) (held_row family.rows.now family.members.now d)
    (equals_chosen family.rows.now family.members.now family.count (place_or family.count c.args.chosen) (place_row family.rows.now family.members.now d))
    (sym (held (goal.at.returns-else-is_held c).Joined-default-family) ∙ c.if-is_held.false)
