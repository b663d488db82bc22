-- "The order and list of 01 hold under the new reading with the negated numbers": under reading 1 the offers of a job are section 6's list for the faces whose
-- stated angles, as their files give them, are negated; and reading 0 is section 6 as it stood. Proved in proofs/TwoReadings.antt.
use Rattle.std.specs.Prelude.{ℕ, zero, suc, ◌≡◌, cond, List, [], ◌∷◌, map, ltb, eqb, length, None, Some}
use Rattle.font.specs.Slant.{opposite_face}
use Rattle.font.specs.Font.{from_font_ref}
use Rattle.matching.specs.Matching.{family_of}
use Rattle.matching.specs.Synthesis.{synthesized, varies_of, opposite_slant}
use Rattle.query.specs.declared.answer.Offer.{Offer}
use Rattle.query.specs.Call.{CallAnswer}
use Rattle.query.specs.declared.cursor.Cursor.{Cursor}
use Rattle.query.specs.Sizes.{record_size}
use Rattle.query.specs.Reader.{Refusal, number, refused, got}
use Rattle.query.specs.Fields.{NumberedFont}
use Rattle.query.specs.Entries.{Family, Request}
use Rattle.query.specs.Job.{Job, read_job}
use Rattle.query.specs.Layout.{layout}
use Rattle.query.specs.View.{View, after_overrides, entry_of, stated_by, view_by, view_of}
use Rattle.query.specs.Offers.{faces_of, offers_of, face_of_offer, synthesis_of_offer, offer_at}
use Rattle.query.specs.Call.{without_offer, with_synthesis, answered, request_of_job, view_answer, request_answer, job_answer, answer_call, written, unwritten, offer_call}
use Rattle.query.specs.Cursor.{after, is_offer, stepped, run}
use Rattle.query.specs.Demands.{family_at}

-- the job as reading 0 has it, but that a file's stated angle is negated; overrides come after it, and their angles are as given
unfoldable pub opposite_view : Job → View
opposite_view job = view_by (λ (f : NumberedFont). opposite_face (stated_by 0 f)) job

-- an answer of reading 0 with the value of `slnt` negated
unfoldable pub opposite_answer : CallAnswer → CallAnswer
opposite_answer a =
    record {
      result = a.result;
      offer = a.offer;
      synthesis = opposite_slant a.synthesis;
      charmap_index = a.charmap_index;
    }

-- Reading 0 is all that stood: each definition computes to what it was without a reading, over those below it under reading 0.
pub record Old : Type 0 where
  -- of a job: its faces after their overrides, whether each is held, and its families
  pub view : (job : Job)
      → view_of 0 job
      ≡ record {
        font = λ i. after_overrides job.overrides i (from_font_ref 0 (entry_of job.faces i).font.file (entry_of job.faces i).font.number).font;
        held = λ i. (entry_of job.faces i).held;
        families = map (λ (m : Family). m.members) job.families;
      }
  -- of an offer, and past the list
  pub synthesis : (view : View) (r : Request) (o : Offer)
      → synthesis_of_offer view 0 r o ≡ synthesized 0 (face_of_offer view o).attributes (varies_of (face_of_offer view o)) r.attributes
  pub offer : (view : View) (r : Request) (o : Offer)
      → answered 0 view r (Some o) ≡ with_synthesis o (synthesis_of_offer view 0 r o) (face_of_offer view o).charmap_index
  pub past : (view : View) (r : Request) → answered 0 view r None ≡ without_offer 1
  -- of a request, and of any bytes
  pub request : (job : Job) (k n : ℕ)
      → request_answer 0 job k n
      ≡ cond (ltb k (length job.requests))
      (answered 0 (view_of 0 job) (request_of_job job k) (offer_at (offers_of (view_of 0 job) (request_of_job job k)) n))
      (without_offer 28)
  pub refused_job : (why : Refusal) (p k n : ℕ) → job_answer 0 (refused why p) k n ≡ without_offer (number why)
  pub read_job_lem : (job : Job) (p k n : ℕ) → job_answer 0 (got job p) k n ≡ request_answer 0 job k n
  pub answers : (s : List ℕ) (k n : ℕ) → answer_call s 0 k n ≡ job_answer 0 (read_job s) k n
  -- the calls
  pub calls : (s : List ℕ) (k n : ℕ) (out : List ℕ)
      → offer_call s 0 k n out ≡ cond (eqb (length out) record_size) (written (answer_call s 0 k n) out) (unwritten 16 out)
  pub steps : (s : List ℕ) (cursor : Cursor)
      → stepped s 0 cursor
      ≡ record {
        cursor = after cursor (is_offer (answer_call s 0 cursor.request cursor.next));
        answer = answer_call s 0 cursor.request cursor.next;
      }

-- the same of any number of steps
pub record OldRun : Type 0 where
  pub no_steps : (s : List ℕ) (cursor : Cursor) → run s 0 zero cursor ≡ []
  pub more_steps : (s : List ℕ) (n : ℕ) (cursor : Cursor)
      → run s 0 (suc n) cursor ≡ (stepped s 0 cursor).answer ∷ run s 0 n (stepped s 0 cursor).cursor

pub record TwoReadings (job : Job) : Type 0 where
  pub old : Old
  -- what the order looks at, and the list, for every request
  pub order : (f : ℕ) → family_at 1 job f ≡ family_of (faces_of (opposite_view job) f) (length (faces_of (opposite_view job) f))
  pub list : (r : Request) → offers_of (view_of 1 job) r ≡ offers_of (opposite_view job) r
  -- each offer's synthesis
  pub synthesis : (r : Request) (o : Offer)
      → synthesis_of_offer (view_of 1 job) 1 r o ≡ opposite_slant (synthesis_of_offer (opposite_view job) 0 r o)
  -- every answer of the offer call and the cursor, 1 and 28 among them
  pub answers : (k n : ℕ) → answer_call (layout job) 1 k n ≡ opposite_answer (view_answer 0 (opposite_view job) job k n)

-- what the offer call writes of each of these answers
pub record WrittenAnswers (job : Job) : Type 0 where
  pub calls : (k n : ℕ) (out : List ℕ) → length out ≡ record_size
      → offer_call (layout job) 1 k n out ≡ written (opposite_answer (view_answer 0 (opposite_view job) job k n)) out
