use Prim.Native.Nat.{ℕ, ◌<◌}
use mathlib.Core.Path.{ap, ◌∙◌}
use mathlib.Core.List.{List}
use native.Mathlib.Omega.{arith}
use lib.ListN.{length, take, length-take}
use Rattle.font.proofs.FaceOf.{under_reading}
use Rattle.font.proofs.Readings.{reading_stands}
use Rattle.query.specs.declared.fields.Behind.{Behind}
use Rattle.query.specs.Values.{behind_number}
use Rattle.query.proofs.FacesAt.{number_there}
use Rattle.query.proofs.RowsAfter.{faces_first, place_low, font_there, face_passed, faces_last, faces_before}
use Rattle.query.proofs.loading.load_faces.Goals as goal

-- a place among the first of a list
among : {A : Type 0} {i : ℕ} (count : ℕ) (xs : List A) → i < length (take count xs) → i < count
among count xs l = omega (arith, length-take count xs)

pub loop-row-init : goal.loop-row-init
loop-row-init c = faces_first

pub file_at-file-requires : goal.file_at-file-requires
file_at-file-requires c = omega (arith, place_low (among _ _ c.loop-row-test.true) c.loop-row.invariant c.requires.0)

pub file_end-requires : goal.file_end-requires
file_end-requires c = omega (arith, place_low (among _ _ c.loop-row-test.true) c.loop-row.invariant c.requires.0)

pub behind_file-behind-requires : goal.behind_file-behind-requires
behind_file-behind-requires c = omega (arith, place_low (among _ _ c.loop-row-test.true) c.loop-row.invariant c.requires.0, c.file_end.ensures.1)

pub row_at-requires : goal.row_at-requires
row_at-requires c =
    let more = among _ _ c.loop-row-test.true in
    let file = c.file_at-file.ensures in
    let number = number_there _ _ _ c.behind_file-behind.ensures c.file_end.ensures.0 in
    record {
      at_bound = (omega (arith, place_low more c.loop-row.invariant c.requires.0), file, number);
      number_value = under_reading _ _ _ (reading_stands c.args.reading) ∙ font_there more c.loop-row.invariant c.requires.0 file number;
    }

pub loop-row-preserved : goal.loop-row-preserved
loop-row-preserved c =
    let next = ap (λ (b : Behind). b.next) c.behind_file-behind.ensures ∙ (λ k. behind_number (c.file_at-file.ensures k) (c.file_end.ensures.0 k)) in
    face_passed (among _ _ c.loop-row-test.true) c.loop-row.invariant (omega (arith, c.loop-row.invariant.long)) c.row_at.ensures next

pub returns : goal.returns
returns c = faces_before c.requires.1 (faces_last c.loop-row.invariant (omega (arith, length-take c.args.count c.args.rows.now)))
