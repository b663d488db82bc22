use borrow.Author.Tests.{lt-ltb, le-ltb, le-leb, lt-leb}
use Rattle.matching.proofs.Numbers.{zero_angle_lem, fourteen_is, minus_fourteen_lem}
use Rattle.matching.specs.Order.{side_standing, right_standing, left_standing, oblique_standing, oblique}
use Rattle.matching.proofs.Standings.{alike}
use Rattle.matching.proofs.order.oblique_standing.Goals as goal
use Rattle.matching.proofs.order.oblique_standing.Goals.{else-wanted-ge-ZERO_ANGLE+else-lean-wanted+else-lean-lt-ZERO_ANGLE, then-wanted-ge-ZERO_ANGLE+else-wanted-lean+else-lean-gt-ZERO_ANGLE}

pub returns-then-style-lt2 : goal.returns-then-style-lt2
unfolding oblique_standing right_standing left_standing side_standing oblique
returns-then-style-lt2 c = simp (c.other_standing.ensures, lt-leb _ _ c.if-style-lt2.true, alike)

pub returns-then-wanted-lean : goal.returns-then-wanted-lean
unfolding oblique_standing right_standing left_standing side_standing oblique
returns-then-wanted-lean c = simp (zero_angle_lem, fourteen_is, c.turn.ensures, ← c.angle_of-lean.ensures, le-leb _ _ c.if-style-lt2.false, le-leb _ _ c.if-wanted-ge-ZERO_ANGLE.true, le-leb _ _ c.if-wanted-lean.true)

pub returns-then-lean-gt-ZERO_ANGLE : goal.returns-then-lean-gt-ZERO_ANGLE
unfolding oblique_standing right_standing left_standing side_standing oblique
returns-then-lean-gt-ZERO_ANGLE c = simp (zero_angle_lem, fourteen_is, c.turn-then-lean-gt-ZERO_ANGLE.ensures, ← c.angle_of-lean.ensures, le-leb _ _ c.if-style-lt2.false, le-leb _ _ c.if-wanted-ge-ZERO_ANGLE.true, lt-leb _ _ c.if-wanted-lean.false, lt-ltb _ _ c.if-lean-gt-ZERO_ANGLE.true)

pub returns-then-lean-wanted : goal.returns-then-lean-wanted
unfolding oblique_standing right_standing left_standing side_standing oblique
returns-then-lean-wanted c = simp (zero_angle_lem, minus_fourteen_lem, c.turn-then-lean-wanted.ensures, ← c.angle_of-lean.ensures, le-leb _ _ c.if-style-lt2.false, lt-leb _ _ c.if-wanted-ge-ZERO_ANGLE.false, le-leb _ _ c.if-lean-wanted.true)

pub returns-then-lean-lt-ZERO_ANGLE : goal.returns-then-lean-lt-ZERO_ANGLE
unfolding oblique_standing right_standing left_standing side_standing oblique
returns-then-lean-lt-ZERO_ANGLE c = simp (zero_angle_lem, minus_fourteen_lem, c.turn-then-lean-lt-ZERO_ANGLE.ensures, ← c.angle_of-lean.ensures, le-leb _ _ c.if-style-lt2.false, lt-leb _ _ c.if-wanted-ge-ZERO_ANGLE.false, lt-leb _ _ c.if-lean-wanted.false, lt-ltb _ _ c.if-lean-lt-ZERO_ANGLE.true)

pub returns : goal.returns
unfolding oblique_standing right_standing left_standing side_standing oblique
returns c =
    elim c.if-wanted-ge-ZERO_ANGLE.branch [
      | then-wanted-ge-ZERO_ANGLE+else-wanted-lean+else-lean-gt-ZERO_ANGLE h ↦ simp (zero_angle_lem, c.other_standing-2.ensures, ← c.angle_of-lean.ensures, le-leb _ _ c.if-style-lt2.false, le-leb _ _ h.if-wanted-ge-ZERO_ANGLE.true, lt-leb _ _ h.if-wanted-lean.false, le-ltb _ _ h.if-lean-gt-ZERO_ANGLE.false)
      | else-wanted-ge-ZERO_ANGLE+else-lean-wanted+else-lean-lt-ZERO_ANGLE h ↦ simp (zero_angle_lem, c.other_standing-2.ensures, ← c.angle_of-lean.ensures, le-leb _ _ c.if-style-lt2.false, lt-leb _ _ h.if-wanted-ge-ZERO_ANGLE.false, lt-leb _ _ h.if-lean-wanted.false, le-ltb _ _ h.if-lean-lt-ZERO_ANGLE.false)
    ]
