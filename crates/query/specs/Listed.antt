-- A family's offers by its rows, and what is known of how many there are. No promise to a user cites this.
use Rattle.std.specs.Prelude.{ℕ, suc, ◌+◌, ◌*◌, ◌/◌, ◌^◌, ◌≤◌, ◌<◌, ◌≡◌, Bool, false, not, ◌&&◌, cond, List, [], ◌∷◌, ltb, length, get_or, take, drop, Option, None, Some, Result, Ok, Err}
use Rattle.font.specs.Tables.{u16_at}
use Rattle.font.specs.declared.attributes.Attributes.{Attributes}
use Rattle.font.specs.declared.font.FontInfo.{FontInfo}
use Rattle.font.specs.declared.refusal.Refusal.{Refusal}
use Rattle.font.specs.Attributes.{default_attributes}
use Rattle.font.specs.Refusals as Refusals
use Rattle.matching.specs.declared.order.Request.{Request}
use Rattle.matching.specs.Order as Order
use Rattle.matching.specs.Order.{same_face}
use Rattle.matching.specs.Matching.{default_place}
use Rattle.matching.specs.declared.rows.Row.{Row}
use Rattle.matching.specs.Rows.{no_row, face_of_row, place_row, family_of_rows}
use Rattle.matching.specs.Synthesis.{synthesized, varies_of}
use Rattle.query.specs.declared.answer.Offer.{Offer}
use Rattle.query.specs.Call.{CallAnswer}
use Rattle.query.specs.declared.offers.Found.{Found}
use Rattle.query.specs.Sizes.{most_overrides, most_families, most_places}
use Rattle.query.specs.Fields.{counted}
use Rattle.query.specs.Entries.{read_override}
use Rattle.query.specs.Positions.{LiesAt}
use Rattle.query.specs.Call.{without_offer, with_synthesis, answered}
use Rattle.query.specs.Job.{check_job, job_of}
use Rattle.query.specs.View.{entry_of, families_of, view_of}
use Rattle.query.specs.Values.{face_at, request_at}
use Rattle.query.specs.Offers.{offer_of, family_offers, offers, offers_of, face_of_offer, offer_at}
use Rattle.query.specs.CallTables.{is_held, held_row, begin_of, known_of, Room, FamilyIn, FontTaken, OfferedFace, RowsShow, members_in}

-- a family of at most 64 faces, each with one of so many rows, as it lies at a position
pub record MembersKnown (s : List ℕ) (p rows : ℕ) : Type 0 where
  pub few : u16_at s p ≤ most_places
  pub whole : (u16_at s p ≡ 0 → ⊥) → p + 2 + 2 * u16_at s p ≤ length s
  pub known : (i : ℕ) → i < u16_at s p → u16_at s (p + 2 + 2 * i) < rows

-- the bytes of its face numbers
unfoldable pub members_at : List ℕ → ℕ → List ℕ
members_at s p = take (2 * u16_at s p) (drop (p + 2) s)

-- a face equals the chosen one, if one is chosen
abbrev pub equals_chosen : List Row → List ℕ → ℕ → ℕ → Row → Bool
equals_chosen rows members count chosen face = ltb chosen count && same_face (face_of_row face) (face_of_row (place_row rows members chosen))

-- the row of the chosen face, if one is chosen, and whether a face equals it: `equals_chosen` in two steps
unfoldable pub chosen_row : List Row → List ℕ → ℕ → ℕ → Option Row
chosen_row rows members count chosen = cond (ltb chosen count) (Some (place_row rows members chosen)) None

unfoldable pub equals_row : Option Row → Row → Bool
equals_row (Some chosen) face = same_face (face_of_row face) (face_of_row chosen)
equals_row None face = false

-- the default is held, and it is no held face that equals the chosen one
unfoldable pub default_offered : List Row → List ℕ → ℕ → ℕ → ℕ → Bool
default_offered rows members count chosen d =
    ltb d count && (held_row rows members d && not (equals_chosen rows members count chosen (place_row rows members d)))

-- what is offered behind the held faces that equal the chosen one
unfoldable pub default_offers : List Row → List ℕ → ℕ → ℕ → List ℕ
default_offers rows members count chosen =
    cond (default_offered rows members count chosen (default_place (family_of_rows rows members count))) (default_place (family_of_rows rows members count) ∷ []) []

-- the offers of the family that lies at a position
unfoldable pub offers_at : List ℕ → ℕ → List Row → Request → List ℕ
offers_at s p rows request = family_offers (family_of_rows rows (members_at s p) (u16_at s p)) (held_row rows (members_at s p)) request

-- The offers of the family of a number, by the rows of the job's faces. The rows are those of a reading, and here it is no matter of which: where they show a
-- view's faces, the offers are the view's (`RowFamilies.rows_show`).
unfoldable pub row_family : List ℕ → List Row → ℕ → Order.Family
row_family s rows f = record { count = length (members_in s f); face = λ i. face_of_row (get_or rows (get_or (members_in s f) i 0) no_row) }

unfoldable pub row_held : List ℕ → List Row → ℕ → ℕ → Bool
row_held s rows f i = is_held (get_or rows (get_or (members_in s f) i 0) no_row)

unfoldable pub row_offers : List ℕ → List Row → Request → ℕ → List ℕ
row_offers s rows request f = family_offers (row_family s rows f) (row_held s rows f) request

-- where the offers of a family of the job are counted, the count is right
pub record Counted (s : List ℕ) (rows : List Row) (request : Request) (families : List ℕ) : Type 0 where
  pub right : (f : ℕ) → f < most_families → (known_of (get_or families f 0) ≡ 0 → ⊥) → known_of (get_or families f 0) ≡ suc (length (row_offers s rows request f))

-- what `TablesOf` says, where a face's entry is the one that its row's marks tell
pub record FaceLoaded (s : List ℕ) (i : ℕ) (row : Row) : Type 0 where
  pub face : face_at s (row.marks / 4) ≡ entry_of (job_of s).faces i
  pub taken : FontTaken (face_at s (row.marks / 4)).font
  pub inside : row.marks / 4 < length s

pub record Loaded (s : List ℕ) (rows : List Row) (families : List ℕ) : Type 0 where
  pub accepted : (check_job s).refusal ≡ 0
  pub room : Room s rows
  pub row : (i : ℕ) → i < length (job_of s).faces → FaceLoaded s i (get_or rows i no_row)
  pub long : length families ≡ most_families
  pub family : (f : ℕ) → f < most_families → FamilyIn s (begin_of (get_or families f 0)) (length (job_of s).faces) (members_in s f)
  pub known : length (job_of s).families ≤ most_families

-- the offers of the request that lies at a position, by rows
unfoldable pub listed_at : List ℕ → List Row → ℕ → Request → List Offer
listed_at s rows p request =
    offers (row_offers s rows request) (request_at s p).most (request_at s p).families (request_at s p).fallbacks

-- ---- what the steps of an offer call hand on

-- the overrides of the job lie in the section at a position
abbrev pub SectionIn : List ℕ → ℕ → Type 0
SectionIn s p = LiesAt (counted most_overrides (read_override (length (job_of s).faces))) s p (job_of s).overrides

-- an offer names a family of the job and a place in it
pub record Names (s : List ℕ) (o : Offer) : Type 0 where
  pub family : o.family < length (families_of (job_of s))
  pub place : o.place < length (members_in s o.family)

-- the answer to the request that lies at a position, under a reading
unfoldable pub answer_at : ℕ → List ℕ → ℕ → ℕ → CallAnswer
answer_at reading s p n =
    answered reading (view_of reading (job_of s)) (request_at s p) (offer_at (offers_of (view_of reading (job_of s)) (request_at s p)) n)

-- What the search for an offer gives: 0 and the offer, with its face's number, where that face's entry and the overrides lie, and the request's attributes; else
-- the result alone.
pub record SearchResult : Type 0 where
  pub result : ℕ
  pub offer : Offer
  pub number : ℕ
  pub entry : ℕ
  pub section : ℕ
  pub wanted : Attributes

unfoldable pub found_nothing : ℕ → SearchResult
found_nothing n = record { result = n; offer = offer_of 0 0; number = 0; entry = 0; section = 0; wanted = default_attributes }

-- so of the code's answer
unfoldable pub search_in : Result (Option Found) Refusal → SearchResult
search_in (Ok (Some f)) = record { result = 0; offer = f.offer; number = f.number; entry = f.entry; section = f.section; wanted = f.wanted }
search_in (Ok None) = found_nothing 1
search_in (Err why) = found_nothing (Refusals.number why)

-- the face of an offer that was found lies where it may be read
pub record Readable (s : List ℕ) (f : SearchResult) : Type 0 where
  pub section : f.section < 2 ^ 31
  pub overrides : u16_at s f.section ≤ most_overrides
  pub entry : f.entry < 2 ^ 62
  pub taken : FontTaken (face_at s f.entry).font

-- an offer was found, with where its face lies, under every reading, for a request of these attributes
pub record Locates (s : List ℕ) (o : Offer) (wanted : Attributes) (f : SearchResult) : Type 0 where
  pub found : f.result ≡ 0
  pub offer : f.offer ≡ o
  pub wanted_is : f.wanted ≡ wanted
  pub readable : Readable s f
  pub face : (reading : ℕ) (font : FontInfo) → OfferedFace reading s f.section f.entry f.number font
      → font ≡ face_of_offer (view_of reading (job_of s)) o

-- the answer with the offer that was found
pub record FaceAnswer (reading : ℕ) (s : List ℕ) (f : SearchResult) (a : CallAnswer) : Type 0 where
  pub font : FontInfo
  pub face : OfferedFace reading s f.section f.entry f.number font
  pub is : a ≡ with_synthesis f.offer (synthesized reading font.attributes (varies_of font) f.wanted) font.charmap_index

-- the answer of a search
pub record SearchAnswer (reading : ℕ) (s : List ℕ) (f : SearchResult) (a : CallAnswer) : Type 0 where
  pub none : (f.result ≡ 0 → ⊥) → a ≡ without_offer f.result
  pub some : f.result ≡ 0 → FaceAnswer reading s f a

-- a search leads to an answer
pub record LeadsTo (reading : ℕ) (s : List ℕ) (a : CallAnswer) (f : SearchResult) : Type 0 where
  pub readable : f.result ≡ 0 → Readable s f
  pub leads : {r : CallAnswer} → SearchAnswer reading s f r → r ≡ a

-- to the answer to the request that lies at a position, under the reading that the rows are of
abbrev pub LeadsByRows : List ℕ → List Row → ℕ → ℕ → SearchResult → Type 0
LeadsByRows s rows p n f = (reading : ℕ) → RowsShow reading s rows → LeadsTo reading s (answer_at reading s p n) f
