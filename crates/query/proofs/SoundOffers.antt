-- The list of offers is no longer than the most; each family in it is one of the job, each place one of that family, and the face there is held.
use Prim.Native.Nat.{ℕ, zero, suc, ◌+◌, ◌-◌, ◌≤◌, ◌<◌}
use mathlib.Core.Path.{◌≡◌, refl, sym, ◌∙◌, ap, subst}
use mathlib.Core.Bool.{Bool, true, false, not, ◌&&◌, cond}
use mathlib.Core.List.{List, [], ◌∷◌, ◌++◌, map}
use native.Mathlib.Omega.{arith}
use lib.Dec.{ltb}
use lib.ListN.{length, get_or, take, length-take, length-append, length-map, get_or-append, get_or-eq_default}
use lib.Seq.{get_or-append-add, get_or-take}
use borrow.Author.Tests.{ltb-true, ltb-false}
use Rattle.matching.specs.declared.order.Request.{Request}
use Rattle.matching.specs.Below.{places_below}
use Rattle.matching.specs.Order as Order
use Rattle.matching.specs.Order.{choice, same_face, equal_places}
use Rattle.matching.specs.Matching.{family_of, default_place}
use Rattle.matching.proofs.Below.{both}
use Rattle.matching.specs.declared.rows.Row.{Row}
use Rattle.query.specs.declared.answer.Offer.{Offer}
use Rattle.query.specs.Job.{job_of}
use Rattle.query.specs.View.{View, families_of}
use Rattle.query.specs.Offers.{keep, among, held_equal, offers_default, family_offers, offer_of, members_of, faces_of, held_in, number_offers, in_turn, offers}
use Rattle.query.specs.CallTables.{members_in}
use Rattle.query.specs.Listed.{row_family, row_held, row_offers, Names}
use Rattle.query.proofs.KeptPlaces.{equal_kept, none_kept}

-- a property of every element
module _ {A : Type 0} (P : A → Type 0) (d : A) where
  abbrev Each : List A → Type 0
  Each xs = (k : ℕ) → k < length xs → P (get_or xs k d)

  each_none : Each []
  each_none k l = absurd (omega arith)

  each_one : (x : A) → P x → Each (x ∷ [])
  each_one x h zero l = h
  each_one x h (suc k) l = absurd (omega arith)

  each_append : (xs ys : List A) → Each xs → Each ys → Each (xs ++ ys)
  each_append xs ys h g k l = go (ltb k (length xs)) refl
    where
      go : (b : Bool) → ltb k (length xs) ≡ b → P (get_or (xs ++ ys) k d)
      go true t = subst P (sym (get_or-append xs ys d k (ltb-true k (length xs) t))) (h k (ltb-true k (length xs) t))
      go false t =
          let j = k - length xs in
          let e : length xs + j ≡ k = omega (arith, ltb-false k (length xs) t) in
          subst P (sym (ap (λ m. get_or (xs ++ ys) m d) (sym e) ∙ get_or-append-add xs ys j d))
          (g j (omega (arith, length-append xs ys, ltb-false k (length xs) t)))

  each_take : (n : ℕ) (xs : List A) → Each xs → Each (take n xs)
  each_take n xs h k l =
      subst P (sym (get_or-take n xs k d (omega (arith, length-take n xs)))) (h k (omega (arith, length-take n xs)))

each_map : {A B : Type 0} (P : B → Type 0) (f : A → B) (a : A) (b : B) (xs : List A) → Each (λ x. P (f x)) a xs → Each P b (map f xs)
each_map P f a b [] h k l = absurd (omega arith)
each_map P f a b (x ∷ xs) h zero l = h 0 (omega arith)
each_map P f a b (x ∷ xs) h (suc k) l = each_map P f a b xs (λ j g. h (suc j) (omega arith)) k (omega arith)

-- the places below n that have a property
module _ (p : ℕ → Bool) where
  placed : (n : ℕ) → Each (λ i. (i < n) × (p i ≡ true)) 0 (places_below p n)
  unfolding places_below
  placed zero = each_none (λ i. (i < 0) × (p i ≡ true)) 0
  placed (suc n) =
      each_append (λ i. (i < suc n) × (p i ≡ true)) 0 (places_below p n) (cond (p n) (n ∷ []) [])
      (λ k l. (let h = placed n k l in (omega (arith, h.0), h.1)))
      (last (p n) refl)
    where
      last : (b : Bool) → p n ≡ b → Each (λ i. (i < suc n) × (p i ≡ true)) 0 (cond b (n ∷ []) [])
      last true e = each_one (λ i. (i < suc n) × (p i ≡ true)) 0 n (omega arith, e)
      last false e = each_none (λ i. (i < suc n) × (p i ≡ true)) 0

-- what a family offers is of the family, and held
module _ (family : Order.Family) (held : ℕ → Bool) (request : Request) where
  abbrev Held : ℕ → Type 0
  Held i = (i < family.count) × (held i ≡ true)

  equal_held : (chosen : ℕ) → Each Held 0 (keep held (equal_places family chosen))
  equal_held chosen = go (ltb chosen family.count) refl
    where
      alike : ℕ → Bool
      alike i = same_face (family.face i) (family.face chosen)

      go : (b : Bool) → ltb chosen family.count ≡ b → Each Held 0 (keep held (equal_places family chosen))
      go true t =
          rw (equal_kept family held chosen (ltb-true chosen family.count t))
          (λ k l. (let h = placed (λ i. held i && alike i) family.count k l in (h.0, (both (held _) (alike _) h.1).0)))
      go false t = rw (none_kept family held chosen (ltb-false chosen family.count t)) (each_none Held 0)

  default_held : Each Held 0 (cond (offers_default family held request) (default_place family ∷ []) [])
  unfolding offers_default
  default_held = go (offers_default family held request) refl
    where
      d : ℕ
      d = default_place family

      offered : Bool
      offered = among (held_equal family held request) d

      parts : offers_default family held request ≡ true → Held d
      parts e =
          let h = both (ltb d family.count) (held d && not offered) e in
          (ltb-true d family.count h.0, (both (held d) (not offered) h.1).0)

      go : (b : Bool) → offers_default family held request ≡ b → Each Held 0 (cond b (d ∷ []) [])
      go true e = each_one Held 0 d (parts e)
      go false e = each_none Held 0

  pub family_held : Each Held 0 (family_offers family held request)
  unfolding family_offers held_equal
  family_held =
      each_append Held 0 (keep held (equal_places family (choice family request)))
      (cond (offers_default family held request) (default_place family ∷ []) [])
      (equal_held (choice family request))
      default_held

-- ---- the list

module _ (family : ℕ → List ℕ) where
  -- what holds of each family's offers holds of each offer of the list
  module _ (P : Offer → Type 0) (each : (f : ℕ) → Each (λ p. P (offer_of f p)) 0 (family f)) where
    turns_hold : (numbers : List ℕ) → Each P (offer_of 0 0) (in_turn family numbers)
    unfolding in_turn
    turns_hold [] = each_none P (offer_of 0 0)
    turns_hold (f ∷ fs) =
        each_append P (offer_of 0 0) (map (offer_of f) (family f)) (in_turn family fs)
        (each_map P (offer_of f) 0 (offer_of 0 0) (family f) (each f))
        (turns_hold fs)

    offers_hold : (most : ℕ) (named fallbacks : List ℕ) (k : ℕ) → k < length (offers family most named fallbacks)
        → P (get_or (offers family most named fallbacks) k (offer_of 0 0))
    unfolding offers
    offers_hold most named fallbacks =
        each_take P (offer_of 0 0) most (in_turn family (named ++ fallbacks)) (turns_hold (named ++ fallbacks))

  pub offers_length : (most : ℕ) (named fallbacks : List ℕ) → length (offers family most named fallbacks) ≤ most
  unfolding offers
  offers_length most named fallbacks = omega (arith, length-take most (in_turn family (named ++ fallbacks)))

-- of a view: a family of the job, a place in it, and a face that is held
module _ (view : View) (request : Request) where
  abbrev pub Sound : Offer → Type 0
  Sound o =
      (o.family < length view.families)
      × (o.place < length (members_of view o.family))
      × (view.held (get_or (members_of view o.family) o.place 0) ≡ true)

  number_sound : (f : ℕ) → Each (λ p. Sound (offer_of f p)) 0 (number_offers view request f)
  unfolding number_offers offer_of faces_of held_in family_of
  number_sound f = go (ltb f (length view.families)) refl
    where
      go : (b : Bool) → ltb f (length view.families) ≡ b
          → Each (λ p. Sound (offer_of f p)) 0 (cond b (family_offers (family_of (faces_of view f) (length (faces_of view f))) (held_in view f) request) [])
      go true t k l =
          let h = family_held (family_of (faces_of view f) (length (faces_of view f))) (held_in view f) request k l in
          (ltb-true f (length view.families) t, omega (arith, h.0, length-map (members_of view f) view.font), h.1)
      go false t k l = absurd (omega arith)

  pub offers_sound : (most : ℕ) (named fallbacks : List ℕ) (k : ℕ) → k < length (offers (number_offers view request) most named fallbacks)
      → Sound (get_or (offers (number_offers view request) most named fallbacks) k (offer_of 0 0))
  offers_sound = offers_hold (number_offers view request) Sound number_sound

-- by rows: a family of the job, and a place in it
module _ (s : List ℕ) (rows : List Row) (request : Request) where
  row_named : (f : ℕ) → Each (λ p. Names s (offer_of f p)) 0 (row_offers s rows request f)
  unfolding row_offers row_family offer_of
  row_named f k l = go (ltb f (length (families_of (job_of s)))) refl
    where
      place : ℕ
      place = get_or (row_offers s rows request f) k 0

      inside : place < length (members_in s f)
      inside = (family_held (row_family s rows f) (row_held s rows f) request k l).0

      go : (b : Bool) → ltb f (length (families_of (job_of s))) ≡ b → Names s (offer_of f place)
      go true t = record { family = ltb-true f (length (families_of (job_of s))) t; place = inside }
      go false t =
          absurd (omega (arith, inside, ap length (get_or-eq_default (families_of (job_of s)) [] (ltb-false f (length (families_of (job_of s))) t))))

  pub offers_named : (most : ℕ) (named fallbacks : List ℕ) (k : ℕ) → k < length (offers (row_offers s rows request) most named fallbacks)
      → Names s (get_or (offers (row_offers s rows request) most named fallbacks) k (offer_of 0 0))
  offers_named = offers_hold (row_offers s rows request) (Names s) row_named
