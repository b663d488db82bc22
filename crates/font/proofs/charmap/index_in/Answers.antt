use mathlib.Core.Path.{sym, ◌∙◌}
use native.Mathlib.Omega.{arith}
use native.Mathlib.Nat.{add-sub_cancel_left}
use lib.ListN.{length-take, length-drop}
use Rattle.font.specs.Tables.{part_of}
use Rattle.font.specs.Charmap.{index_in, charmap_index_of}
use Rattle.font.proofs.Lookup.{within}
use Rattle.font.proofs.Records.{none_in}
use Rattle.font.proofs.charmap.index_in.Goals as goal

pub overflow_add-offset : goal.overflow_add-offset
overflow_add-offset c = omega (arith, (within _ _ _ _ _ _ (sym c.in-Found.ensures)).inside)

pub slice_bounds-index_of-end : goal.slice_bounds-index_of-end
slice_bounds-index_of-end c = (within _ _ _ _ _ _ (sym c.in-Found.ensures)).inside

pub index_of-requires : goal.index_of-requires
index_of-requires c =
    let w = within _ _ _ _ _ _ (sym c.in-Found.ensures) in
    (omega (arith, w.inside, c.well_formed), simp (add-sub_cancel_left, length-take, length-drop) (omega (arith, w.inside, w.enough)))

pub returns-in-Found : goal.returns-in-Found
unfolding charmap_index_of index_in part_of
returns-in-Found c = c.index_of.ensures ∙ simp (add-sub_cancel_left, sym c.in-Found.ensures)

pub returns-in-Damaged : goal.returns-in-Damaged
returns-in-Damaged c = none_in _ _ _ c.find.ensures c.in-Damaged.is
