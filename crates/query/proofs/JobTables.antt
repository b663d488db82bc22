-- What is loaded of an accepted job, from the walk through it and the rows.
use Rattle.std.specs.Prelude.{Err}
use Prim.Native.Nat.{ℕ, ◌+◌, ◌/◌, ◌≤◌, ◌<◌}
use mathlib.Core.Path.{◌≡◌, refl, sym, ap, ◌∙◌, subst}
use mathlib.Core.Bool.{Bool, true, false}
use mathlib.Core.List.{List, []}
use native.Mathlib.Omega.{arith}
use lib.ListN.{length, get_or, get_or-map, get_or-eq_default}
use borrow.Author.Tests.{leb-true}
use Rattle.font.specs.declared.attributes.Attributes.{Attributes}
use Rattle.font.specs.declared.font.FontInfo.{FontInfo}
use Rattle.font.specs.Tables.{u16_at}
use Rattle.font.specs.Slant.{is_reading}
use Rattle.font.specs.Font.{font_refusal, refusal_under}
use Rattle.font.proofs.FaceOf.{under_reading, attributes_of_face}
use Rattle.matching.specs.Matching.{has_axis, slnt}
use Rattle.matching.specs.declared.rows.Row.{Row}
use Rattle.matching.specs.Rows.{no_row, row_of}
use Rattle.matching.proofs.Ranks.{Tri, low, same, high, tri}
use Rattle.font.proofs.Refusals.{not_zero}
use Rattle.query.specs.Job.{Checked}
use Rattle.query.specs.Positions.{WalkEnd}
use Rattle.query.specs.Sizes.{most_bytes, most_faces, most_overrides, most_families}
use Rattle.query.specs.Reader.{Reader, Got, refused, got, many}
use Rattle.query.specs.Fields.{NumberedFont, count, counted}
use Rattle.query.specs.Entries.{Face, Override, Family, read_face, read_override, read_family}
use Rattle.query.specs.Job.{Job, read_job, check_job, job_in, job_of}
use Rattle.query.specs.declared.job.Refused.{Refused}
use Rattle.query.specs.Positions.{LiesAt, WalkAnswer, walk_in}
use Rattle.query.specs.Values.{face_at}
use Rattle.query.specs.View.{after_overrides, entry_of, stated_by, families_of, view_by, view_of}
use Rattle.query.specs.CallTables.{marks, attributes_in, axis_in, row_at, rows_after, begin_of, nowhere, FacesLie, EntryRow, RowsAt, RowsOverridden, RowIn, RowShows, members_in, FamilyIn, Room, LoadAnswer}
use Rattle.query.proofs.Ends.{then_got}
use Rattle.query.proofs.Leaves.{count_read, counted_length}
use Rattle.query.proofs.Checks.{accepted, job_read, sections_read}
use Rattle.query.proofs.OverridesLeft.{counted_lies}
use Rattle.query.proofs.OverriddenFaces.{after_axis, stated_axis}
use Rattle.query.proofs.RowsAfter.{row_after}
use Rattle.query.proofs.FamiliesAt.{family_in, unknown_family}

-- ---- the count of a section and its entries

pub record CountedAt {A : Type 0} (limit : ℕ) (r : Reader A) (s : List ℕ) (p : ℕ) (xs : List A) : Type 0 where
  pub few : u16_at s p ≤ limit
  pub long : length xs ≡ u16_at s p
  pub inside : p + 2 ≤ length s
  pub entries : LiesAt (many (u16_at s p) r) s (p + 2) xs

pub counted_at : {A : Type 0} (limit : ℕ) (r : Reader A) (s : List ℕ) (p : ℕ) (xs : List A) → LiesAt (counted limit r) s p xs → CountedAt limit r s p xs
unfolding counted
counted_at limit r s p xs lies =
    let first = then_got (count limit) _ s p xs lies.end lies.read in
    let number = count_read limit s p first.0 first.1 first.2 in
    record {
      few = omega (arith, number.value, leb-true first.0 limit number.passed);
      long = counted_length limit r s p xs lies.end lies.read;
      inside = number.inside;
      entries = counted_lies limit r s p xs lies;
    }

-- where the entry of a face begins, from the marks of its row
mark_entry : (b c : Bool) (entry : ℕ) → marks entry b c / 4 ≡ entry
unfolding marks
mark_entry true true entry = omega arith
mark_entry true false entry = omega arith
mark_entry false true entry = omega arith
mark_entry false false entry = omega arith

-- what stands past the families
abbrev no_family : Family
no_family = record { members = [] }

-- the faces of a job, if it is accepted, are as many as it says first, and not too many
pub faces_counted : (s : List ℕ) → (length (job_of s).faces ≤ u16_at s 0) × (length (job_of s).faces ≤ most_faces)
unfolding job_of job_in
faces_counted s = go (read_job s) refl
  where
    go : (g : Got Job) → read_job s ≡ g → (length (job_in g).faces ≤ u16_at s 0) × (length (job_in g).faces ≤ most_faces)
    go (refused w p) e = (omega arith, omega arith)
    go (got j q) e =
        let p = sections_read s j q (job_read s j q e).1 in
        let fs = counted_at most_faces read_face s 0 j.faces (record { end = p.second; read = p.faces }) in
        (omega arith, omega arith)

-- ---- an accepted job

module _ {s : List ℕ} {w : WalkEnd} {before families : List ℕ} {asked : ℕ} (walks : WalkAnswer s w before families asked) (z : w.refusal ≡ 0) where
  job_accepted : (check_job s).refusal ≡ 0
  job_accepted = sym (ap (λ (c : Checked). c.refusal) walks.checked) ∙ z

  record Parts : Type 0 where
    short : length s ≤ most_bytes
    faces : CountedAt most_faces read_face s 0 (job_of s).faces
    known : length (job_of s).families ≤ most_families

  parts : Parts
  parts =
      let a = accepted s job_accepted in
      let r = job_read s (job_of s) a.0 a.1 in
      let p = sections_read s (job_of s) a.0 r.1 in
      let ms = counted_at most_families (read_family (length (job_of s).faces)) s p.third (job_of s).families (record { end = p.fourth; read = p.families }) in
      record {
        short = r.0;
        faces = counted_at most_faces read_face s 0 (job_of s).faces (record { end = p.second; read = p.faces });
        known = omega arith;
      }

  section : CountedAt most_overrides (read_override (length (job_of s).faces)) s w.overrides (job_of s).overrides
  section = counted_at most_overrides (read_override (length (job_of s).faces)) s w.overrides (job_of s).overrides (walks.begins z).override

  -- ---- what the steps require

  pub section_begins : w.overrides + 2 ≤ most_bytes
  section_begins = omega (arith, section, parts)

  pub few_overrides : {n : ℕ} → n ≡ u16_at s w.overrides → n ≤ most_overrides
  few_overrides e = omega (arith, section)

  module _ {n : ℕ} (all : n ≡ u16_at s 0) where
    pub faces_number : n ≡ length (job_of s).faces
    faces_number = all ∙ sym parts.faces.long

    lie : LiesAt (many n read_face) s 2 (job_of s).faces
    lie = rw all parts.faces.entries

    pub faces_lie : FacesLie s 2 n
    faces_lie = record { short = parts.short; faces = (job_of s).faces; lie = lie }

    -- ---- the rows

    module _ {reading m : ℕ} (read_as : is_reading reading ≡ true) {old rows after : List Row} (faces : RowsAt reading s 2 n old rows) (room : Room s old)
        (overridden : RowsOverridden s (w.overrides + 2) m rows after) (number : m ≡ u16_at s w.overrides) where
      rows_after_lem : after ≡ rows_after (job_of s).overrides rows
      rows_after_lem =
          overridden.are (length (job_of s).faces) (job_of s).overrides (omega (arith, faces.long)) (rw number section.entries)

      module _ (i : ℕ) (l : i < length (job_of s).faces) where
        abbrev there : EntryRow reading s (entry_of (job_of s).faces i) (get_or rows i no_row)
        there = faces.each (job_of s).faces lie i (omega (arith, faces_number))

        abbrev p : ℕ
        p = there.entry

        abbrev font : NumberedFont
        font = (face_at s p).font

        abbrev os : List Override
        os = (job_of s).overrides

        abbrev f : FontInfo
        f = stated_by reading font

        taken : font_refusal font.file font.number ≡ 0
        taken = ap (λ (x : Face). font_refusal x.font.file x.font.number) there.face_is ∙ there.taken

        taken_under : refusal_under reading font.file font.number ≡ 0
        taken_under = under_reading reading font.file font.number read_as ∙ taken

        -- before the overrides
        stated : get_or rows i no_row ≡ row_of f.attributes (marks p (face_at s p).held (axis_in font slnt))
        unfolding attributes_in row_at stated_by
        stated =
            there.is
            ∙ ap (λ (a : Attributes). row_of a (marks p (face_at s p).held (axis_in font slnt))) (attributes_of_face reading font.file font.number taken_under)

        slant : axis_in font slnt ≡ has_axis (after_overrides os i f) slnt
        slant = stated_axis reading font slnt taken_under ∙ sym (after_axis os i f slnt)

        -- the row of the face i by its entry
        abbrev seen : Face → Row
        seen x =
            row_of (after_overrides os i (stated_by reading x.font)).attributes
            (marks p x.held (has_axis (after_overrides os i (stated_by reading x.font)) slnt))

        row_is : get_or after i no_row ≡ row_of (after_overrides os i f).attributes (marks p (face_at s p).held (has_axis (after_overrides os i f) slnt))
        row_is =
            ap (λ (xs : List Row). get_or xs i no_row) rows_after_lem ∙ row_after os rows i f _ (omega (arith, faces.long)) stated
            ∙ ap (λ (b : Bool). row_of (after_overrides os i f).attributes (marks p (face_at s p).held b)) slant

        row_in : RowIn s i (get_or after i no_row)
        unfolding row_of
        row_in =
            record {
              entry = p;
              told = ap (λ (r : Row). r.marks / 4) row_is ∙ mark_entry _ _ p;
              face = there.face_is;
              taken = taken;
              inside = there.inside;
            }

        row_shows : RowShows (view_of reading (job_of s)) i (get_or after i no_row)
        unfolding view_of view_by
        row_shows = record { entry = p; is = row_is ∙ ap seen there.face_is }

      -- ---- the families

      module _ (places : length families ≡ most_families) (fresh : (k : ℕ) → k < most_families → get_or before k 0 ≡ nowhere) where
        members_are : (k : ℕ) → members_in s k ≡ (get_or (job_of s).families k no_family).members
        unfolding families_of
        members_are k = get_or-map (λ (m : Family). m.members) (job_of s).families k no_family

        past_families : (k : ℕ) → k < most_families → length (job_of s).families ≤ k
            → FamilyIn s (get_or families k 0) (length (job_of s).faces) (get_or (job_of s).families k no_family).members
        past_families k l h =
            rw ((walks.kept z).kept k h, fresh k l, get_or-eq_default (job_of s).families no_family h) (unknown_family s (length (job_of s).faces) parts.short)

        family_there : (k : ℕ) → k < most_families → Tri k (length (job_of s).families)
            → FamilyIn s (get_or families k 0) (length (job_of s).faces) (get_or (job_of s).families k no_family).members
        family_there k l (low h) =
            let lies = (walks.begins z).family.lies k no_family (omega arith) (omega arith) in
            let here : 0 + k ≡ k = omega arith in
            subst (λ (j : ℕ). FamilyIn s (get_or families k 0) (length (job_of s).faces) (get_or (job_of s).families j no_family).members) here
            (family_in (length (job_of s).faces) s (get_or families k 0) _ lies.end parts.short lies.read)
        family_there k l (same h) = past_families k l (omega arith)
        family_there k l (high h) = past_families k l (omega arith)

        lies_there : (k : ℕ) → k < most_families → FamilyIn s (get_or families k 0) (length (job_of s).faces) (members_in s k)
        lies_there k l = rw (members_are k) (family_there k l (tri k (length (job_of s).families)))

        pub loads : LoadAnswer reading s w after families asked
        loads =
            record {
              checked = walks.checked;
              loaded = λ y.
                  record {
                    accepted = job_accepted;
                    room = omega (arith, overridden.long, faces.long);
                    row = row_in;
                    long = places;
                    family = λ k l. (let begins : begin_of (get_or families k 0) ≡ get_or families k 0 = omega (arith, (lies_there k l).low) in rw begins (lies_there k l));
                    known = parts.known;
                  };
              shown = λ y. row_shows;
              uncounted = λ y k l. (lies_there k l).low;
              overrides = λ y. (walks.begins z).override;
              request = λ y. (walks.begins z).request;
            }

-- ---- a refused job

pub refused_walk : (why : Refused) → (walk_in (Err why)).refusal ≡ 0 → ⊥
unfolding walk_in
refused_walk why = not_zero why.refusal

pub loads_nothing : {reading : ℕ} {s : List ℕ} {w : WalkEnd} {before families : List ℕ} {asked : ℕ} {rows : List Row}
    → WalkAnswer s w before families asked → (w.refusal ≡ 0 → ⊥) → LoadAnswer reading s w rows families asked
loads_nothing walks h =
    record {
      checked = walks.checked;
      loaded = λ y. absurd (h y);
      shown = λ y. absurd (h y);
      uncounted = λ y. absurd (h y);
      overrides = λ y. absurd (h y);
      request = λ y. absurd (h y);
    }
