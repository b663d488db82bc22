-- The face that an offer names, from what is loaded of the job.
use Prim.Native.Nat.{ℕ, ◌+◌, ◌*◌, ◌/◌, ◌<◌}
use mathlib.Core.Path.{◌≡◌, ap, ◌∙◌}
use mathlib.Core.List.{List}
use native.Mathlib.Omega.{arith}
use lib.ListN.{length, get_or, length-map}
use Rattle.font.specs.declared.font.FontInfo.{FontInfo}
use Rattle.font.specs.Tables.{u16_at}
use Rattle.matching.specs.declared.rows.Row.{Row}
use Rattle.matching.specs.Rows.{no_row}
use Rattle.query.specs.declared.answer.Offer.{Offer}
use Rattle.query.specs.Sizes.{most_families}
use Rattle.query.specs.Entries.{Face, Family}
use Rattle.query.specs.Job.{job_of}
use Rattle.query.specs.View.{after_overrides, stated_by, families_of, view_by, view_of}
use Rattle.query.specs.Offers.{members_of, face_of_offer}
use Rattle.query.specs.Values.{face_at}
use Rattle.query.specs.CallTables.{FontTaken, begin_of, OfferedFace, members_in, TablesOf, RowIn, FamilyIn}
use Rattle.query.specs.Listed.{SectionIn, Names}

module _ {s : List ℕ} {rows : List Row} {families : List ℕ} (loaded : TablesOf s rows families) {o : Offer} (there : Names s o) where
  abbrev number : ℕ
  number = get_or (members_in s o.family) o.place 0

  pub family_few : o.family < most_families
  unfolding families_of
  family_few = omega (arith, there.family, loaded.known, length-map (job_of s).families (λ (m : Family). m.members))

  here : FamilyIn s (begin_of (get_or families o.family 0)) (length (job_of s).faces) (members_in s o.family)
  here = loaded.family o.family family_few

  module _ {at i : ℕ} (begins : at ≡ begin_of (get_or families o.family 0)) (is : i ≡ u16_at s (at + 2 + 2 * o.place)) where
    number_is : i ≡ number
    number_is = is ∙ ap (λ (p : ℕ). u16_at s (p + 2 + 2 * o.place)) begins ∙ here.member o.place there.place

    number_known : i < length (job_of s).faces
    number_known = omega (arith, number_is, here.known o.place there.place)

    pub number_has_row : i < length rows
    number_has_row = omega (arith, number_known, loaded.room)

    row : RowIn s i (get_or rows i no_row)
    row = loaded.row i number_known

    module _ {entry : ℕ} (lies : entry ≡ (get_or rows i no_row).marks / 4) where
      entry_is : entry ≡ row.entry
      entry_is = lies ∙ row.told

      pub entry_inside : entry < length s
      entry_inside = omega (arith, entry_is, row.inside)

      pub entry_taken : FontTaken (face_at s entry).font
      entry_taken = rw entry_is row.taken

      pub face_named : {section reading : ℕ} {font : FontInfo} → SectionIn s section → OfferedFace reading s section entry i font
          → font ≡ face_of_offer (view_of reading (job_of s)) o
      unfolding view_of view_by members_of face_of_offer
      face_named {reading = reading} lies offered =
          offered.is (length (job_of s).faces) (job_of s).overrides lies
          ∙ ap (λ (f : Face). after_overrides (job_of s).overrides i (stated_by reading f.font)) (ap (face_at s) entry_is ∙ row.face)
          ∙ ap (view_of reading (job_of s)).font number_is
