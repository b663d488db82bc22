-- The overrides lie after their count, and the face is that of its file and number.
use Prim.Native.Nat.{ℕ, ◌≤◌}
use mathlib.Core.Path.{◌≡◌, sym, ap, ◌∙◌}
use mathlib.Core.Bool.{true}
use mathlib.Core.List.{List}
use native.Mathlib.Omega.{arith}
use Rattle.font.specs.declared.font.FontInfo.{FontInfo}
use Rattle.font.specs.Slant.{is_reading, reading_number}
use Rattle.font.specs.Collection.{font_start}
use Rattle.font.specs.Font.{font_refusal, face_of}
use Rattle.font.proofs.FaceOf.{under_reading, accepted_face_lem, few_axes}
use Rattle.font.proofs.Readings.{reading_stands}
use Rattle.query.specs.declared.fields.Behind.{Behind}
use Rattle.query.specs.Sizes.{most_overrides}
use Rattle.query.specs.Fields.{NumberedFont}
use Rattle.query.specs.Entries.{read_override}
use Rattle.query.specs.Values.{file_at, file_end, behind_file, face_at}
use Rattle.query.specs.View.{after_overrides, stated_by}
use Rattle.query.specs.CallTables.{FontTaken}
use Rattle.query.proofs.OverridesLeft.{counted_lies}
use Rattle.query.proofs.faces.offered_face.Goals as goal
use Rattle.query.proofs.faces.offered_face.Goals.{After-read_font-font}

-- a file and what stands behind it, by the face's entry
module _ (s : List ℕ) (p : ℕ) {file : List ℕ} {end : ℕ} {behind : Behind} (file_is : file ≡ file_at s p) (behind-is : behind ≡ behind_file s end file) (end_is : end ≡ file_end s p)
    (taken : FontTaken (face_at s p).font)
  where
    font_is : record { file = file; number = behind.number } ≡ (face_at s p).font
    unfolding face_at
    font_is = rw (behind-is, end_is, file_is)

    not_refused : font_refusal file behind.number ≡ 0
    not_refused = ap (λ (f : NumberedFont). font_refusal f.file f.number) font_is ∙ taken

    font_of : (reading : ℕ) {font : FontInfo} → is_reading reading ≡ true → font ≡ face_of reading file (font_start file behind.number)
        → font ≡ stated_by reading (face_at s p).font
    unfolding stated_by
    font_of reading known e =
        e
        ∙ sym (accepted_face_lem reading file behind.number (under_reading reading file behind.number known ∙ not_refused))
        ∙ ap (λ (f : NumberedFont). stated_by reading f) font_is

few_stated_axes : (reading : ℕ) (f : NumberedFont) {font : FontInfo} → font ≡ stated_by reading f → font.axis_count ≤ 16
unfolding stated_by
few_stated_axes reading f e = rw e (few_axes reading f.file f.number)

read : (c : After-read_font-font) → c.read_font-font.result ≡ stated_by (reading_number c.args.reading) (face_at c.args.job.now c.args.entry).font
read c =
    font_of _ _ c.file_at-file.ensures c.behind_file-behind.ensures c.file_end.ensures.0 c.requires.taken (reading_number c.args.reading) (reading_stands c.args.reading)
    c.read_font-font.ensures

pub read_font-font-requires : goal.read_font-font-requires
read_font-font-requires c =
    under_reading _ _ _ (reading_stands c.args.reading)
    ∙ not_refused _ _ c.file_at-file.ensures c.behind_file-behind.ensures c.file_end.ensures.0 c.requires.taken

pub overridden-requires : goal.overridden-requires
overridden-requires c =
    let given = c.requires.section_bound in
    let a = c.args in (
      omega (arith, given.0),
      omega (arith, given.2, c.u16_at-count.ensures),
      few_stated_axes (reading_number a.reading) (face_at a.job.now a.entry).font (read (goal.at.overridden-requires c).After-read_font-font),
    )

pub returns : goal.returns
returns c =
    let a = c.args in
    record {
      is =
          λ n os lies.
          c.overridden.ensures.is n os (rw c.u16_at-count.ensures (counted_lies most_overrides (read_override n) a.job.now a.section os lies))
          ∙ ap (λ (f : FontInfo). after_overrides os a.number f) (read (goal.at.returns c).After-read_font-font);
    }
