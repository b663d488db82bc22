use mathlib.Core.Path.{refl}
use native.Mathlib.Omega.{arith}
use borrow.Author.Rules.{rules}
use Rattle.std.proofs.lemmas.Result.{err_from_is_err_and}
use Rattle.font.proofs.Readings.{reading_stands}
use Rattle.query.specs.Positions.{walk_in}
use Rattle.query.proofs.JobTables.{faces_number, faces_lie, section_begins, few_overrides, loads, refused_walk, loads_nothing}
use Rattle.query.proofs.loading.load.Goals as goal

pub returns-in_err-walked : goal.returns-in_err-walked
returns-in_err-walked c =
    let e = err_from_is_err_and c.from_residual.result c.from_residual.ensures.1 in
    rw (e.1, e.2) (loads_nothing c.in_err-walked.ensures (refused_walk c.in_err-walked.field-0.0))

pub load_faces-requires : goal.load_faces-requires
unfolding walk_in
load_faces-requires c =
    let walks = c.in_ok-walked.ensures in
    let count = c.u16_at-faces.ensures in
    (faces_lie walks refl count, omega (arith, faces_number walks refl count, c.requires.room.0))

pub overflow_add-section : goal.overflow_add-section
unfolding walk_in
overflow_add-section c = omega (arith, section_begins c.in_ok-walked.ensures refl)

pub load_overrides-requires : goal.load_overrides-requires
unfolding walk_in
load_overrides-requires c =
    let walks = c.in_ok-walked.ensures in
    (omega (arith, section_begins walks refl), few_overrides walks refl c.u16_at-count.ensures)

pub returns : goal.returns
unfolding walk_in
returns c =
    loads c.in_ok-walked.ensures refl c.u16_at-faces.ensures (reading_stands c.args.reading) c.load_faces.ensures c.requires.room.0
    c.load_overrides.ensures c.u16_at-count.ensures (search rules) c.requires.by_index
