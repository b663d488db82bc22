-- Section 6: the offers of a request.
use Rattle.std.specs.Prelude.{ℕ, zero, suc, Bool, true, false, not, ◌&&◌, ◌||◌, cond, List, [], ◌∷◌, ◌++◌, map, ltb, eqb, length, get_or, take, Option, None, Some}
use Rattle.font.specs.declared.font.FontInfo.{FontInfo}
use Rattle.matching.specs.declared.order.Request.{Request}
use Rattle.matching.specs.Synthesis.{SynthesisAnswer}
use Rattle.matching.specs.Order as Order
use Rattle.matching.specs.Order.{choice, equal_places}
use Rattle.matching.specs.Matching.{family_of, request_of, default_place}
use Rattle.matching.specs.Synthesis.{synthesized, varies_of}
use Rattle.query.specs.declared.answer.Offer.{Offer}
use Rattle.query.specs.Entries as Entries
use Rattle.query.specs.View.{View}

-- "offers .. count from 0": of the n-th of a list what `found` says of it, and where the list has no n-th what `past` says of how far past its end n lies
unfoldable pub pick : {A B : Type 0} → (A → B) → (ℕ → B) → List A → ℕ → B
pick found past [] n = past n
pick found past (x ∷ xs) zero = found x
pick found past (x ∷ xs) (suc n) = pick found past xs n

-- ---- one family

-- those of a list that have a property, in order; and whether a number is in a list
unfoldable pub keep : (ℕ → Bool) → List ℕ → List ℕ
keep p [] = []
keep p (x ∷ xs) = cond (p x) (x ∷ keep p xs) (keep p xs)

unfoldable pub among : List ℕ → ℕ → Bool
among [] n = false
among (x ∷ xs) n = eqb x n || among xs n

-- The family by what the order looks at, and whether the face at a place is held.
module _ (family : Order.Family) (held : ℕ → Bool) (request : Request) where
  -- "its held equal faces"
  unfoldable pub held_equal : List ℕ
  held_equal = keep held (equal_places family (choice family request))

  -- "then its held default unless offered". "An empty family offers nothing."
  unfoldable pub offers_default : Bool
  offers_default = ltb (default_place family) family.count && (held (default_place family) && not (among held_equal (default_place family)))

  -- "Each offers its held equal faces, then its held default unless offered."
  unfoldable pub family_offers : List ℕ
  family_offers = held_equal ++ cond offers_default (default_place family ∷ []) []

-- ---- the families that a request names

unfoldable pub offer_of : ℕ → ℕ → Offer
offer_of f p = record { family = f; place = p }

-- Each family's offers are the places that `places_of` gives of its number.
module _ (places_of : ℕ → List ℕ) where
  -- "Families come in turn .. A family listed twice offers twice."
  unfoldable pub in_turn : List ℕ → List Offer
  in_turn [] = []
  in_turn (f ∷ fs) = map (offer_of f) (places_of f) ++ in_turn fs

  -- "Families come in turn, fallbacks last .. The list is cut after the request's most offers; 0 gives none."
  unfoldable pub offers : ℕ → List ℕ → List ℕ → List Offer
  offers most named fallbacks = take most (in_turn (named ++ fallbacks))

module _ (view : View) where
  -- the face numbers of a family; what stands past the list is read by nothing
  unfoldable pub members_of : ℕ → List ℕ
  members_of f = get_or view.families f []

  -- the faces of a family by value, and whether each is held; past the family's places nothing asks
  unfoldable pub faces_of : ℕ → List FontInfo
  faces_of f = map view.font (members_of f)

  unfoldable pub held_in : ℕ → ℕ → Bool
  held_in f i = view.held (get_or (members_of f) i 0)

  -- the face that an offer names
  unfoldable pub face_of_offer : Offer → FontInfo
  face_of_offer o = view.font (get_or (members_of o.family) o.place 0)

  -- an offer's synthesis: section 5 on the face and the request, under a reading
  unfoldable pub synthesis_of_offer : ℕ → Entries.Request → Offer → SynthesisAnswer
  synthesis_of_offer reading r o = synthesized reading (face_of_offer o).attributes (varies_of (face_of_offer o)) r.attributes

  -- "an unknown number is skipped"
  unfoldable pub number_offers : Request → ℕ → List ℕ
  number_offers request f = cond (ltb f (length view.families)) (family_offers (family_of (faces_of f) (length (faces_of f))) (held_in f) request) []

  -- the offers of a request of the job: "Synthesis is on." The reading is in the view's faces alone: the list is the same definition under both.
  unfoldable pub offers_of : Entries.Request → List Offer
  offers_of r = offers (number_offers (request_of r.attributes true)) r.most r.families r.fallbacks

-- "An offer call .. answers the offer of the number asked for .., or, exactly where the list has no such offer, that it lies past the list."
unfoldable pub offer_at : List Offer → ℕ → (Option Offer)
offer_at = pick Some (λ k. None)
