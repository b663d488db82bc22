use mathlib.Core.Path.{sym, ◌∙◌}
use borrow.Author.Tests.{lt-ltb}
use Rattle.font.specs.Charmap.{best_number, index_of, subtable_offset_of}
use Rattle.font.proofs.Records.{best_qualifies, class_low, symbol_is, mac_roman_is, no_index_of}
use Rattle.font.proofs.charmap.index_of.Goals as goal

pub returns-in_err-best : goal.returns-in_err-best
unfolding best_number
returns-in_err-best c = c.from_residual.ensures ∙ no_index_of _ _ c.in_err-best.ensures.0

pub returns : goal.returns
unfolding best_number index_of subtable_offset_of
returns c =
    let best = c.in_ok-best.ensures in
    let cmap = c.args.cmap.now in
    simp (sym (best_qualifies cmap), sym best.0, lt-ltb _ _ (class_low c.in_ok-best.best.class), sym best.1.0, c.u32_in-subtable.ensures, c.eq.ensures, c.eq-2.ensures, symbol_is, mac_roman_is)
