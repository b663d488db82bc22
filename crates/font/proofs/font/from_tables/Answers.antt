use mathlib.Core.Path.{sym}
use borrow.Author.Tests.{lt-ltb, le-ltb}
use lib.Ieee.{of_bits, of_int, round}
use Rattle.font.specs.Single.{single}
use Rattle.font.specs.Attributes.{default_attributes}
use Rattle.font.specs.StatedAttributes.{present, from_tables}
use Rattle.font.proofs.font.from_tables.Goals as goal

pub returns-then-os2-gt0 : goal.returns-then-os2-gt0
unfolding from_tables present
returns-then-os2-gt0 c = simp (sym c.data_for_tag-os2.ensures, lt-ltb _ _ c.if-os2-gt0.true, sym c.from_os2_post.ensures)

pub returns-then-head-gt0 : goal.returns-then-head-gt0
unfolding from_tables present
returns-then-head-gt0 c =
    simp
    (sym c.data_for_tag-os2.ensures, le-ltb _ _ c.if-os2-gt0.false, sym c.data_for_tag-head.ensures, lt-ltb _ _ c.if-head-gt0.true, sym c.from_head.ensures)

pub returns : goal.returns
unfolding from_tables present default_attributes single of_bits of_int round
returns c =
    simp
    (sym c.data_for_tag-os2.ensures, le-ltb _ _ c.if-os2-gt0.false, sym c.data_for_tag-head.ensures, le-ltb _ _ c.if-head-gt0.false)
