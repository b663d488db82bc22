-- A byte string is accepted exactly when it is the layout of a job within the limits, and it is read as that job, to its end.
use Prim.Native.Nat.{ℕ, ◌≤◌}
use mathlib.Core.Path.{◌≡◌, refl, sym, ap, ◌∙◌, subst}
use mathlib.Core.List.{List, ◌++◌, append-nil}
use mathlib.Core.Logic.{◌↔◌, ◌⊎◌, inl, inr}
use native.Mathlib.Omega.{arith}
use lib.ListN.{length, drop_of_length-le}
use lib.Seq.{drop-length}
use borrow.Author.Tests.{le-leb, le-ltb}
use Rattle.query.specs.Job.{Checked}
use Rattle.query.specs.Sizes.{most_bytes, most_faces, most_overrides, most_families, most_requests}
use Rattle.query.specs.Reader.{Refusal, overlong, past_end, over_limit, not_held, bad_directory, no_charmap, many_axes, no_face, unknown, bad_number, bytes_left, no_font, damaged_table, number, got}
use Rattle.query.specs.Fields.{counted}
use Rattle.query.specs.Entries.{read_face, read_override, read_family, read_request}
use Rattle.query.specs.Job.{Job, at_end, read_sections, read_job, answer, check_job, job_of}
use Rattle.query.specs.Layout.{Bytes, after16, layout_face, layout_override, layout_family, layout_request, layout, Every, FaceFits, OverrideFits, FamilyFits, RequestFits, JobFits}
use Rattle.query.proofs.Checks.{accepted, job_read, sections_read}
use Rattle.query.proofs.Stands.{Stands, join, split}
use Rattle.query.proofs.Exact.{Stood, Exact}
use Rattle.query.proofs.ExactLists.{then_is, exact_counted}
use Rattle.query.proofs.ExactEntries.{exact_face, exact_override, exact_family, exact_request}

-- the limits but the job's length
record SectionsFit (j : Job) : Type 0 where
  faces : (length j.faces ≤ most_faces) × Every FaceFits j.faces
  overrides : (length j.overrides ≤ most_overrides) × Every (OverrideFits (length j.faces)) j.overrides
  families : (length j.families ≤ most_families) × Every (FamilyFits (length j.faces)) j.families
  requests : (length j.requests ≤ most_requests) × Every RequestFits j.requests

exact_faces : Exact (counted most_faces read_face) (after16 layout_face) (λ xs. (length xs ≤ most_faces) × Every FaceFits xs)
exact_faces = exact_counted read_face layout_face FaceFits exact_face most_faces

exact_overrides : (n : ℕ) → Exact (counted most_overrides (read_override n)) (after16 layout_override) (λ xs. (length xs ≤ most_overrides) × Every (OverrideFits n) xs)
exact_overrides n = exact_counted (read_override n) layout_override (OverrideFits n) (exact_override n) most_overrides

exact_families : (n : ℕ) → Exact (counted most_families (read_family n)) (after16 layout_family) (λ xs. (length xs ≤ most_families) × Every (FamilyFits n) xs)
exact_families n = exact_counted (read_family n) layout_family (FamilyFits n) (exact_family n) most_families

exact_requests : Exact (counted most_requests read_request) (after16 layout_request) (λ xs. (length xs ≤ most_requests) × Every RequestFits xs)
exact_requests = exact_counted read_request layout_request RequestFits exact_request most_requests

at_end_is : (j : Job) (s : List ℕ) (p : ℕ) → length s ≤ p → at_end j s p ≡ got j p
unfolding at_end
at_end_is j s p h = simp (le-ltb p (length s) h)

record Whole (s : List ℕ) (j : Job) (q : ℕ) : Type 0 where
  stands : Stood s 0 (layout j) q (SectionsFit j)
  last : length s ≤ q

sections_sound : (s : List ℕ) → Bytes s → (j : Job) (q : ℕ) → read_sections s 0 ≡ got j q → Whole s j q
unfolding layout
sections_sound s B j q h =
    let r = sections_read s j q h in
    let f = exact_faces.sound s B 0 j.faces r.second r.faces in
    let g = (exact_overrides (length j.faces)).sound s B r.second j.overrides r.third r.overrides in
    let k = (exact_families (length j.faces)).sound s B r.third j.families r.fourth r.families in
    let y = exact_requests.sound s B r.fourth j.requests q r.requests in
    record {
      stands = record {
        stands = join f.stands (join g.stands (join k.stands y.stands));
        within = record { faces = f.within; overrides = g.within; families = k.within; requests = y.within };
      };
      last = r.last;
    }

sections_complete : (s : List ℕ) (j : Job) (q : ℕ) → SectionsFit j → Stands s 0 (layout j) q → length s ≤ q → read_sections s 0 ≡ got j q
unfolding read_sections layout
sections_complete s j q w h l =
    let d = split (after16 layout_face j.faces) _ h in
    let c = split (after16 layout_override j.overrides) _ d.second in
    let e = split (after16 layout_family j.families) (after16 layout_request j.requests) c.second in
    let n = length j.faces in
    then_is (counted most_faces read_face) _ s 0 j.faces _ (exact_faces.complete s 0 j.faces _ w.faces d.first)
    (then_is (counted most_overrides (read_override n)) _ s _ j.overrides _ ((exact_overrides n).complete s _ j.overrides _ w.overrides c.first)
    (then_is (counted most_families (read_family n)) _ s _ j.families _ ((exact_families n).complete s _ j.families _ w.families e.first)
    (then_is (counted most_requests read_request) _ s _ j.requests q (exact_requests.complete s _ j.requests q w.requests e.second)
    (at_end_is j s q l))))

-- ---- the two directions

-- a job within the limits, its layout, and its end
pub record LaidOut (s : List ℕ) (j : Job) (q : ℕ) : Type 0 where
  pub bytes : s ≡ layout j
  pub fits : JobFits j
  pub end : q ≡ length s

-- what stands in the whole of a list is the list
all_of : (s x : List ℕ) (q : ℕ) → Stands s 0 x q → length s ≤ q → s ≡ x
all_of s x q h l = h.rest ∙ (ap (λ (z : List ℕ). x ++ z) (drop_of_length-le s l) ∙ append-nil x)

-- every accepted byte string is the layout of the job that is read, which is within the limits
pub accepted_is_a_layout : (s : List ℕ) → Bytes s → (j : Job) (q : ℕ) → read_job s ≡ got j q → LaidOut s j q
accepted_is_a_layout s B j q e =
    let r = job_read s j q e in
    let w = sections_sound s B j q r.1 in
    let f = w.stands.within in
    let same : s ≡ layout j = all_of s (layout j) q w.stands.stands w.last in
    record {
      bytes = same;
      fits = record {
        bytes = subst (λ z. length z ≤ most_bytes) same r.0;
        faces = f.faces;
        overrides = f.overrides;
        families = f.families;
        requests = f.requests;
      };
      end = omega (arith, w.stands.stands.next, ap length same);
    }

-- every job within the limits is accepted in its layout, and read as that job, to its end
pub layout_is_accepted : (j : Job) → JobFits j → read_job (layout j) ≡ got j (length (layout j))
unfolding read_job
layout_is_accepted j w =
    let s = layout j in
    simp (le-leb (length s) most_bytes w.bytes)
    (sections_complete s j (length s) (record { faces = w.faces; overrides = w.overrides; families = w.families; requests = w.requests })
    (record { next = omega arith; rest = sym (append-nil s) ∙ ap (λ (z : List ℕ). s ++ z) (sym (drop-length s)) })
    (omega arith))

-- the check call answers 0 and 0 exactly for the layouts of jobs within the limits
pub accepted_exactly : (s : List ℕ) → Bytes s → (check_job s ≡ record { refusal = 0; position = 0 }) ↔ ((j : Job) × (s ≡ layout j) × JobFits j)
unfolding check_job answer
accepted_exactly s B = (
  (λ e. let a = accepted s (ap (λ (c : Checked). c.refusal) e) in
      let l = accepted_is_a_layout s B (job_of s) a.0 a.1 in
      (job_of s, l.bytes, l.fits)),
  (λ h. ap check_job h.1 ∙ ap answer (layout_is_accepted h.0 h.2)),
)

-- the table's rows for a job are 17 to 27, 30 and 31
abbrev JobRow : ℕ → Type 0
JobRow n = (17 ≤ n) × ((n ≤ 27) ⊎ ((n ≡ 30) ⊎ (n ≡ 31)))

pub number_row : (w : Refusal) → JobRow (number w)
unfolding number
number_row overlong = (omega arith, inl (omega arith))
number_row past_end = (omega arith, inl (omega arith))
number_row over_limit = (omega arith, inl (omega arith))
number_row not_held = (omega arith, inl (omega arith))
number_row bad_directory = (omega arith, inl (omega arith))
number_row no_charmap = (omega arith, inl (omega arith))
number_row many_axes = (omega arith, inl (omega arith))
number_row no_face = (omega arith, inl (omega arith))
number_row unknown = (omega arith, inl (omega arith))
number_row bad_number = (omega arith, inl (omega arith))
number_row bytes_left = (omega arith, inl (omega arith))
number_row no_font = (omega arith, inr (inl refl))
number_row damaged_table = (omega arith, inr (inr refl))

-- no two jobs within the limits have one layout
pub one_job : (i j : Job) → JobFits i → JobFits j → layout i ≡ layout j → i ≡ j
one_job i j v w e =
    let a = layout_is_accepted i v in
    let b = layout_is_accepted j w in
    let c : read_job (layout i) ≡ read_job (layout j) = ap read_job e in
    cc
