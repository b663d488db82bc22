-- Section 6: the offer call: "job, request, offer number, 40-byte output", and the reading behind the job.
use Rattle.std.specs.Prelude.{ℕ, Bool, true, false, not, ◌&&◌, cond, List, [], ◌≡◌, leb, ltb, eqb, pos, length, get_or, Option, None, Some, Result, Ok, Err}
use Rattle.font.specs.declared.charmap.CharmapIndex.{CharmapIndex}
use Rattle.font.specs.Attributes.{default_attributes}
use Rattle.font.specs.Slant.{is_reading, reading_of}
use Rattle.font.specs.declared.slant.Reading.{Reading}
use Rattle.font.specs.declared.refusal.Refusal.TheVariants.{Unknown, Overlong}
use Rattle.matching.specs.Synthesis.{SynthesisAnswer}
use Rattle.matching.specs.Synthesis.{unvaried, laid_out}
use Rattle.font.specs.Refusals as Refusals
use Rattle.font.specs.declared.refusal.Refusal as Table
use Rattle.query.specs.declared.answer.Offer.{Offer}
use Rattle.query.specs.declared.answer.Answer.{Answer}
use Rattle.query.specs.Sizes.{record_size, most_bytes}
use Rattle.query.specs.Reader.{number, Got, refused, got}
use Rattle.query.specs.Entries.{Request}
use Rattle.query.specs.Job.{Job, read_job}
use Rattle.query.specs.View.{View, view_of}
use Rattle.query.specs.Offers.{offer_of, offers_of, face_of_offer, synthesis_of_offer, offer_at}
use Rattle.query.specs.Record.{record_bytes}

-- ---- the answer to a request and an offer number, before a byte is written

-- 0 and the offer with its synthesis and charmap index, 1 past the list, or a refusal. Beside all but 0 stand zeros.
pub record CallAnswer : Type 0 where
  pub result : ℕ
  pub offer : Offer
  pub synthesis : SynthesisAnswer
  pub charmap_index : CharmapIndex

-- an answer without an offer: 1, or a refusal; zeros stand beside it
unfoldable pub without_offer : ℕ → CallAnswer
without_offer n =
    record {
      result = n;
      offer = offer_of 0 0;
      synthesis = unvaried 0 false (pos 0);
      charmap_index = record { subtable_offset = 0; is_symbol = false; is_mac_roman = false };
    }

-- so of the code's answer
unfoldable pub answer_in : Result (Option Answer) Table.Refusal → CallAnswer
answer_in (Ok (Some a)) = record { result = 0; offer = a.offer; synthesis = laid_out a.synthesis; charmap_index = a.charmap_index }
answer_in (Ok None) = without_offer 1
answer_in (Err why) = without_offer (Refusals.number why)

unfoldable pub map_ok : {A B : Type 0} → (A → B) → Result A Table.Refusal → Result B Table.Refusal
map_ok f (Ok a) = Ok (f a)
map_ok f (Err why) = Err why

-- 0 and the offer; 29 is "a fourth setting"
unfoldable pub with_synthesis : Offer → SynthesisAnswer → CharmapIndex → CallAnswer
with_synthesis o made index =
    cond (eqb made.refusal 29)
    (without_offer 29)
    (record { result = 0; offer = o; synthesis = made; charmap_index = index })

-- "answers the offer of the number asked for, with its synthesis", or 1, "past the list"
unfoldable pub answered : ℕ → View → Request → (Option Offer) → CallAnswer
answered reading view r (Some o) = with_synthesis o (synthesis_of_offer view reading r o) (face_of_offer view o).charmap_index
answered reading view r None = without_offer 1

-- the request of a number; what stands past the list is read by nothing
unfoldable pub request_of_job : Job → ℕ → Request
request_of_job job k = get_or job.requests k (record { most = 0; attributes = default_attributes; families = []; fallbacks = [] })

-- over a view of the job; 28 is a request "not in the job"
unfoldable pub view_answer : ℕ → View → Job → ℕ → ℕ → CallAnswer
view_answer reading view job k n =
    cond (ltb k (length job.requests))
    (answered reading view (request_of_job job k) (offer_at (offers_of view (request_of_job job k)) n))
    (without_offer 28)

unfoldable pub request_answer : ℕ → Job → ℕ → ℕ → CallAnswer
request_answer reading job k n = view_answer reading (view_of reading job) job k n

unfoldable pub job_answer : ℕ → Got Job → ℕ → ℕ → CallAnswer
job_answer reading (refused why p) k n = without_offer (number why)
job_answer reading (got job p) k n = request_answer reading job k n

-- "another value is 25, after 17": so where the job is not too long
abbrev pub refuses_reading : List ℕ → ℕ → Bool
refuses_reading job reading = not (is_reading reading) && leb (length job) most_bytes

-- the reading that a call is made under, or the refusal 17 or 25
unfoldable pub reading_over : List ℕ → ℕ → Result Reading Table.Refusal
reading_over job reading = cond (is_reading reading) (reading_of reading) (cond (leb (length job) most_bytes) (Err Unknown) (Err Overlong))

abbrev pub ReadingOver : List ℕ → ℕ → Result Reading Table.Refusal → Type 0
ReadingOver job reading result = result ≡ reading_over job reading

-- "First met, reading left to right: .. then the whole job, then Request." 25 for the reading comes before the job's first field.
unfoldable pub answer_call : List ℕ → ℕ → ℕ → ℕ → CallAnswer
answer_call job reading k n = cond (refuses_reading job reading) (without_offer 25) (job_answer reading (read_job job) k n)

-- ---- the call

-- what the call returns, and the output after it
pub record Called : Type 0 where
  pub result : ℕ
  pub output : List ℕ

-- "A refusal returns its number and writes nothing"; "It returns 1, writing nothing, when that offer lies past the list."
unfoldable pub unwritten : ℕ → List ℕ → Called
unwritten n out = record { result = n; output = out }

-- "It returns 0 and writes" the 40 bytes
unfoldable pub written : CallAnswer → List ℕ → Called
written a out =
    cond (eqb a.result 0)
    (record { result = 0; output = record_bytes a.offer a.synthesis a.charmap_index })
    (unwritten a.result out)

-- 16 is "output not 40 bytes", met before the job
unfoldable pub offer_call : List ℕ → ℕ → ℕ → ℕ → List ℕ → Called
offer_call job reading k n out = cond (eqb (length out) record_size) (written (answer_call job reading k n) out) (unwritten 16 out)

-- the number of the code's answer: 0 for an offer, 1 for none, or the refusal
unfoldable pub result_in : Result Bool Table.Refusal → ℕ
result_in (Ok true) = 0
result_in (Ok false) = 1
result_in (Err why) = Refusals.number why

-- the result and the output are those of the definition
pub record Calls (called : Called) (result : ℕ) (output : List ℕ) : Type 0 where
  pub result_is : result ≡ called.result
  pub output_is : output ≡ called.output
