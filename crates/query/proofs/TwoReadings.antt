-- The two readings of a job (`specs/TwoReadings.antt`).
use Rattle.std.specs.Prelude.{Option, None, Some}
use Prim.Native.Nat.{ℕ}
use mathlib.Core.Path.{◌≡◌, refl, sym, ap, ◌∙◌}
use mathlib.Core.Bool.{Bool, true, false, cond}
use native.Mathlib.Omega.{arith}
use lib.Dec.{ltb}
use lib.ListN.{length}
use borrow.Author.Tests.{ne_eqb}
use Rattle.font.specs.declared.charmap.CharmapIndex.{CharmapIndex}
use Rattle.font.specs.declared.font.FontInfo.{FontInfo}
use Rattle.font.specs.Slant.{is_reading, opposite_face}
use Rattle.font.proofs.TwoReadings as Font
use Rattle.matching.specs.Synthesis.{SynthesisAnswer}
use Rattle.matching.specs.Matching.{family_of, slnt}
use Rattle.matching.specs.Synthesis.{unvaried, varies_of, opposite_values, opposite_slant}
use Rattle.matching.proofs.TwoReadings as Matching
use Rattle.query.specs.declared.answer.Offer.{Offer}
use Rattle.query.specs.Fields.{NumberedFont}
use Rattle.query.specs.Entries.{Request}
use Rattle.query.specs.Job.{Job}
use Rattle.query.specs.Layout.{layout, JobFits}
use Rattle.query.specs.View.{View, stated_by, families_of, view_by, view_of}
use Rattle.query.specs.Offers.{faces_of, offers_of, face_of_offer, synthesis_of_offer, offer_at}
use Rattle.query.specs.Call.{without_offer, with_synthesis, answered, request_of_job, view_answer, request_answer, job_answer, answer_call, offer_call}
use Rattle.query.specs.Cursor.{stepped, run}
use Rattle.query.specs.TwoReadings.{opposite_view, opposite_answer, Old, OldRun, TwoReadings, WrittenAnswers}
use Rattle.query.proofs.AcceptedJobs.{layout_is_accepted}
use Rattle.query.proofs.AnswerCases.{no_fourth, called, call_written}

-- each font under reading 1 is that of reading 0 with its stated angle negated
fonts_same : stated_by 1 ≡ (λ (f : NumberedFont). opposite_face (stated_by 0 f))
unfolding stated_by
fonts_same = λ i f. (Font.two_readings f.file f.number).face i

view_same : (job : Job) → view_of 1 job ≡ opposite_view job
unfolding view_of opposite_view
view_same job = ap (λ (stated : NumberedFont → FontInfo). view_by stated job) fonts_same

-- over one view, reading 1's answer is reading 0's with the value of `slnt` negated
module _ (view : View) where
  synthesis_same : (r : Request) (o : Offer) → synthesis_of_offer view 1 r o ≡ opposite_slant (synthesis_of_offer view 0 r o)
  unfolding synthesis_of_offer
  synthesis_same r o = (Matching.two_readings).opposite (face_of_offer view o).attributes (varies_of (face_of_offer view o)) r.attributes

  none_same : (n : ℕ) → without_offer n ≡ opposite_answer (without_offer n)
  unfolding without_offer opposite_answer unvaried opposite_slant opposite_values slnt
  none_same n = refl

  -- an answer with an offer, whose synthesis is not refused
  offer_same : (o : Offer) (made : SynthesisAnswer) (index : CharmapIndex) → made.refusal ≡ 0
      → with_synthesis o (opposite_slant made) index ≡ opposite_answer (with_synthesis o made index)
  unfolding with_synthesis opposite_answer opposite_slant
  offer_same o made index z = rw (ne_eqb made.refusal 29 (λ e. omega arith))

  answered_same : (r : Request) (f : (Option Offer)) → answered 1 view r f ≡ opposite_answer (answered 0 view r f)
  unfolding answered
  answered_same r (Some o) =
      let index = (face_of_offer view o).charmap_index in
      ap (λ (made : SynthesisAnswer). with_synthesis o made index) (synthesis_same r o) ∙ offer_same o (synthesis_of_offer view 0 r o) index (no_fourth 0 view r o)
  answered_same r None = none_same 1

  answer_same : (job : Job) (k n : ℕ) → view_answer 1 view job k n ≡ opposite_answer (view_answer 0 view job k n)
  unfolding view_answer
  answer_same job k n = go (ltb k (length job.requests))
    where
      r : Request
      r = request_of_job job k

      go : (b : Bool) → cond b (answered 1 view r (offer_at (offers_of view r) n)) (without_offer 28)
          ≡ opposite_answer (cond b (answered 0 view r (offer_at (offers_of view r) n)) (without_offer 28))
      go true = answered_same r (offer_at (offers_of view r) n)
      go false = none_same 28

-- by computing
old_kept : Old
unfolding view_of view_by stated_by families_of synthesis_of_offer answered view_answer request_answer job_answer answer_call is_reading offer_call stepped
old_kept =
    record {
      view = λ job. refl;
      synthesis = λ view r o. refl;
      offer = λ view r o. refl;
      past = λ view r. refl;
      request = λ job k n. refl;
      refused_job = λ why p k n. refl;
      read_job_lem = λ job p k n. refl;
      answers = λ s k n. refl;
      calls = λ s k n out. refl;
      steps = λ s cursor. refl;
    }

pub old_run : OldRun
unfolding run
old_run = record { no_steps = λ s cursor. refl; more_steps = λ s n cursor. refl }

answers_same : (job : Job) → JobFits job → (k n : ℕ) → answer_call (layout job) 1 k n ≡ opposite_answer (view_answer 0 (opposite_view job) job k n)
unfolding request_answer is_reading
answers_same job fits k n =
    called (layout job) 1 refl k n job _ (layout_is_accepted job fits)
    ∙ ap (λ (view : View). view_answer 1 view job k n) (view_same job)
    ∙ answer_same (opposite_view job) job k n

pub two_readings : (job : Job) → JobFits job → TwoReadings job
two_readings job fits =
    record {
      old = old_kept;
      order = λ f. ap (λ (view : View). family_of (faces_of view f) (length (faces_of view f))) (view_same job);
      list = λ r. ap (λ (view : View). offers_of view r) (view_same job);
      synthesis = λ r o. ap (λ (view : View). synthesis_of_offer view 1 r o) (view_same job) ∙ synthesis_same (opposite_view job) r o;
      answers = answers_same job fits;
    }

pub written_answers : (job : Job) → JobFits job → WrittenAnswers job
written_answers job fits =
    record { calls = λ k n out long. call_written (layout job) 1 k n out long (sym (answers_same job fits k n)) }
