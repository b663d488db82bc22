-- Demands 1 and 3 (docs/GUIDE.md, section 8) over the bytes of a job, as statements about the definitions that the contracts cite. The calls on a job promise them
-- of the bytes that they are given; proved in proofs/Demands.antt.
use Rattle.std.specs.Prelude.{ℕ, ◌-◌, ◌≤◌, ◌<◌, ◌≡◌, true, false, cond, List, ◌++◌, map, eqb, length, take, replicate}
use Rattle.font.specs.Attributes.{default_attributes}
use Rattle.font.specs.Slant.{is_reading}
use Rattle.matching.specs.declared.order.Request.{Request}
use Rattle.matching.specs.Order as Order
use Rattle.matching.specs.Order.{choice, Demand}
use Rattle.matching.specs.Matching.{family_of, request_of}
use Rattle.query.specs.declared.answer.Offer.{Offer}
use Rattle.query.specs.Call.{CallAnswer}
use Rattle.query.specs.Job.{Checked}
use Rattle.query.specs.Sizes.{record_size, most_bytes}
use Rattle.query.specs.Reader.{Refusal, number, refused, got}
use Rattle.query.specs.Job.{Job, read_job, check_job}
use Rattle.query.specs.Layout.{layout, JobFits}
use Rattle.query.specs.View.{view_of}
use Rattle.query.specs.Offers.{pick, faces_of, offers_of, face_of_offer, synthesis_of_offer}
use Rattle.query.specs.Record.{record_bytes}
use Rattle.query.specs.Call.{Called, without_offer, request_of_job, answer_call, unwritten, offer_call}
use Rattle.query.specs.Cursor.{fresh, run}

-- under a reading
module _ (reading : ℕ) (job : Job) (k : ℕ) where
  -- the list of a request's offers
  abbrev pub listed : List Offer
  listed = offers_of (view_of reading job) (request_of_job job k)

  -- an offer "with its synthesis", and its charmap index
  abbrev pub offered : Offer → CallAnswer
  offered o =
      record {
        result = 0;
        offer = o;
        synthesis = synthesis_of_offer (view_of reading job) reading (request_of_job job k) o;
        charmap_index = (face_of_offer (view_of reading job) o).charmap_index;
      }

  -- the same in 40 bytes
  abbrev pub offer_bytes : Offer → Called
  offer_bytes o =
      record {
        result = 0;
        output = record_bytes o (synthesis_of_offer (view_of reading job) reading (request_of_job job k) o) (face_of_offer (view_of reading job) o).charmap_index;
      }

-- ---- demand 1

-- "Every job that keeps the layout and limits is read to its end and each request in it gets its offers", under each reading. A number outside the job is 28.
pub record Kept (s : List ℕ) (job : Job) : Type 0 where
  pub end : read_job s ≡ got job (length s)
  pub check : check_job s ≡ record { refusal = 0; position = 0 }
  pub offers : (reading k n : ℕ) → is_reading reading ≡ true → k < length job.requests → (out : List ℕ) → length out ≡ record_size
      → offer_call s reading k n out ≡ pick (offer_bytes reading job k) (λ i. unwritten 1 out) (listed reading job k) n
  pub outside : (reading k n : ℕ) → is_reading reading ≡ true → length job.requests ≤ k → (out : List ℕ) → length out ≡ record_size
      → offer_call s reading k n out ≡ unwritten 28 out

-- "First met, reading left to right": what the check call answers for the bytes before the field at p, whose row is w. All that they lack is that field, which is
-- 18 there; before bytes left, 27, they are a job. 17 is of no field: its position is 0, before which there are no bytes.
abbrev pub cut_before : Refusal → ℕ → Checked
cut_before w p = cond (eqb (number w) 27) (record { refusal = 0; position = 0 }) (record { refusal = 18; position = p })

-- What the check call answers for the first n bytes of such a job: 18, a field is past their end; or already the job's own refusal; and before bytes left, 27, they can
-- be a job. So no other refusal is met before. Where each stands is another matter: a font of a collection is refused at its length field once its number is read,
-- and so after an 18 at that number, which stands behind (`InTurn`).
pub data Until (s : List ℕ) (w : Refusal) (n : ℕ) : Type 0 where
  lacking : (check_job (take n s)).refusal ≡ 18 → Until s w n
  met : check_job (take n s) ≡ check_job s → Until s w n
  whole : number w ≡ 27 → check_job (take n s) ≡ record { refusal = 0; position = 0 } → Until s w n

-- "Every other job .. gets the refusal of the table, with the output buffer untouched": the row of the field first met, and that field's position. Which row a
-- field has is said where it is read (Fields, Entries). The bytes before the field, and, but for 18, those after the job, change nothing of it.
pub record Other (s : List ℕ) : Type 0 where
  pub why : Refusal
  pub position : ℕ
  pub read : read_job s ≡ refused why position
  pub first : check_job (take position s) ≡ cut_before why position
  pub until : length s ≤ most_bytes → (n : ℕ) → Until s why n
  pub stays : (u : List ℕ) → length (s ++ u) ≤ most_bytes → (number why ≡ 18 → ⊥) → check_job (s ++ u) ≡ check_job s
  pub check : check_job s ≡ record { refusal = number why; position = position }
  pub untouched : (reading k n : ℕ) (out : List ℕ) → is_reading reading ≡ true → length out ≡ record_size
      → offer_call s reading k n out ≡ unwritten (number why) out

-- ---- demand 3

-- "Whatever the request and the family of two or more faces .. a chosen face is one of the family and stands before every other face of it .. Of such a family no
-- face is chosen exactly when ..", as `Demand` says it. "No face for an empty family; place 0 for one face": in an empty family there is no place 0.
pub record Chooses (family : Order.Family) (request : Request) : Type 0 where
  pub many : 2 ≤ family.count → Demand family request (choice family request)
  pub few : family.count < 2 → choice family request ≡ 0

-- a family of the job, as the order looks at it
abbrev pub family_at : ℕ → Job → ℕ → Order.Family
family_at reading job f = family_of (faces_of (view_of reading job) f) (length (faces_of (view_of reading job) f))

-- The choice, in each family of the job and so in each that the request names, and the same of its default. "An offer call that is not refused answers the
-- offer of the number asked for, with its synthesis, or, exactly where the list has no such offer, that it lies past the list. .. a fresh cursor stepped any number
-- of times .. gives the same offers, each with its synthesis, in order, then "past the list" each time." Under a reading, whichever it is.
pub record Offered (s : List ℕ) (reading : ℕ) (job : Job) (k : ℕ) : Type 0 where
  pub chosen : (f : ℕ) → f < length job.families → Chooses (family_at reading job f) (request_of (request_of_job job k).attributes true)
  pub default : (f : ℕ) → f < length job.families → Chooses (family_at reading job f) (request_of default_attributes false)
  pub each : (n : ℕ) → answer_call s reading k n ≡ pick (offered reading job k) (λ i. without_offer 1) (listed reading job k) n
  pub steps : (n : ℕ)
      → run s reading n (fresh k)
      ≡ map (offered reading job k) (take n (listed reading job k)) ++ replicate (n - length (listed reading job k)) (without_offer 1)

-- ---- both, over the bytes of a job: those of a layout within the limits, and all others. Over any bytes an output that is not 40 bytes is 16; then a job that is
-- too long is 17; then a value that is no reading is 25, whatever the job's fields are.

pub record Demands (s : List ℕ) : Type 0 where
  pub kept : (job : Job) → s ≡ layout job → JobFits job → Kept s job
  pub other : (((job : Job) × (s ≡ layout job) × JobFits job) → ⊥) → Other s
  pub buffer : (reading k n : ℕ) (out : List ℕ) → (length out ≡ record_size → ⊥) → offer_call s reading k n out ≡ unwritten 16 out
  pub long : most_bytes < length s → (reading k n : ℕ) (out : List ℕ) → length out ≡ record_size → offer_call s reading k n out ≡ unwritten 17 out
  pub unknown : length s ≤ most_bytes → (reading k n : ℕ) (out : List ℕ) → is_reading reading ≡ false → length out ≡ record_size
      → offer_call s reading k n out ≡ unwritten 25 out
  pub offered : (job : Job) → s ≡ layout job → JobFits job → (reading k : ℕ) → is_reading reading ≡ true → k < length job.requests
      → Offered s reading job k
