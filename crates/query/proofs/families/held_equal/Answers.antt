-- The invariant: of the number is left what the held equal places passed have not used up.
use Rattle.std.specs.Prelude.{Option, Ok, Err}
use Prim.Native.Nat.{ℕ}
use mathlib.Core.Path.{◌≡◌, sym, ◌∙◌, ap}
use mathlib.Core.Bool.{true, ◌&&◌}
use native.Mathlib.Omega.{arith}
use lib.ListN.{length}
use Rattle.matching.specs.Below.{places_below}
use Rattle.matching.specs.Matching.{place_or}
use Rattle.matching.specs.declared.rows.Row.{Row}
use Rattle.matching.specs.declared.rows.FamilyRows.{FamilyRows}
use Rattle.matching.specs.Rows.{place_row, family_of_rows}
use Rattle.matching.proofs.Listed.{placed, passed, longer}
use Rattle.query.specs.CallTables.{is_held, held_row}
use Rattle.query.specs.Listed.{equals_chosen, chosen_row, equals_row}
use Rattle.query.proofs.Picked.{pick_past}
use Rattle.query.proofs.FamilyLists.{by_chosen_row}
use Rattle.query.proofs.KeptPlaces.{chosen_kept, nth_place}
use Rattle.query.proofs.families.held_equal.Invariants.{equal}
use Rattle.query.proofs.families.held_equal.Goals as goal
use Rattle.query.proofs.families.held_equal.Goals.{then-is_held+then-equals_chosen+else-left-eq0, else-is_held, else-is_held-via-then-is_held+else-equals_chosen, else-is_held-via-else-is_held}

-- the row that was taken before the loop is the chosen one
by_row : (family : FamilyRows) (chosen : Option ℕ) (face : Row) {wanted : Option Row}
    → wanted ≡ chosen_row family.rows.now family.members.now family.count (place_or family.count chosen)
    → equals_row wanted face ≡ equals_chosen family.rows.now family.members.now family.count (place_or family.count chosen) face
by_row family chosen face is =
    ap (λ w. equals_row w face) is ∙ by_chosen_row family.rows.now family.members.now family.count (place_or family.count chosen) face

pub loop-place-init : goal.loop-place-init
unfolding places_below
loop-place-init c = omega arith

pub returns-then-left-eq0 : goal.returns-then-left-eq0
unfolding held_row
returns-then-left-eq0 c =
    let l = c.loop-place in
    let family = c.args.family in
    let chosen = place_or family.count c.args.chosen in
    let held : held_row family.rows.now family.members.now l.place ≡ true = sym (ap is_held c.row-face.ensures) ∙ sym c.is_held.ensures ∙ c.if-is_held.true in
    let same = rw c.row-face.ensures at (sym (by_row family c.args.chosen c.row-face.result c.chosen_row-wanted.ensures) ∙ sym c.equals_chosen.ensures ∙ c.if-equals_chosen.true) in
    rw (chosen_kept (family_of_rows family.rows.now family.members.now family.count) (held_row family.rows.now family.members.now) chosen)
    (sym (nth_place Ok (equal family chosen) l.place c.args.n (λ k. held k && same k) (omega (arith, l.invariant)) Err family.count c.loop-place-test.true))

pub loop-place-preserved : goal.loop-place-preserved
unfolding held_row
loop-place-preserved c =
    let l = c.loop-place in
    let family = c.args.family in
    let p = equal family (place_or family.count c.args.chosen) in
    let held : c.is_held.result ≡ held_row family.rows.now family.members.now l.place = c.is_held.ensures ∙ ap is_held c.row-face.ensures in
    elim c.if-is_held.branch [
      | then-is_held+then-equals_chosen+else-left-eq0 w ↦ let h = sym held ∙ w.if-is_held.true in
          let e = rw c.row-face.ensures at (sym (by_row family c.args.chosen c.row-face.result c.chosen_row-wanted.ensures) ∙ sym w.equals_chosen.ensures ∙ w.if-equals_chosen.true) in
          omega (arith, l.invariant, w.if-left-eq0.false, w.left-is, ap length (placed p l.place (λ k. h k && e k)), longer (places_below p l.place) l.place)
      | else-is_held w ↦ elim w.else-is_held.branch [
        | else-is_held-via-then-is_held+else-equals_chosen v ↦ let h = sym held ∙ v.if-is_held.true in
            let e = rw c.row-face.ensures at (sym (by_row family c.args.chosen c.row-face.result c.chosen_row-wanted.ensures) ∙ sym v.equals_chosen.ensures ∙ v.if-equals_chosen.false) in
            omega (arith, l.invariant, w.left-is, ap length (passed p l.place (λ k. h k && e k)))
        | else-is_held-via-else-is_held v ↦ let h = sym held ∙ v.if-is_held.false in
            omega (arith, l.invariant, w.left-is, ap length (passed p l.place (λ k. h k && equals_chosen family.rows.now family.members.now family.count (place_or family.count c.args.chosen) (place_row family.rows.now family.members.now l.place))))
      ]
    ]

pub returns : goal.returns
returns c =
    let l = c.loop-place in
    let family = c.args.family in
    let chosen = place_or family.count c.args.chosen in
    let end : l.place ≡ family.count = omega arith in
    let passed_all = rw end at l.invariant in
    rw (chosen_kept (family_of_rows family.rows.now family.members.now family.count) (held_row family.rows.now family.members.now) chosen)
    (sym (pick_past Ok Err (places_below (equal family chosen) family.count) c.args.n l.left (omega (arith, passed_all))))
