-- A family's offers: the held equal faces and what the default adds, how many they are, and what the list depends on.
use Rattle.std.specs.Prelude.{None, Some, Result, Ok, Err}
use Prim.Native.Nat.{ℕ, zero, suc, ◌+◌, ◌≤◌, ◌<◌}
use mathlib.Core.Path.{◌≡◌, refl, sym, ◌∙◌, ap}
use mathlib.Core.Bool.{Bool, true, false, not, ◌&&◌, cond}
use mathlib.Core.List.{List, [], ◌∷◌, ◌++◌}
use native.Mathlib.Omega.{arith}
use lib.Dec.{ltb}
use lib.ListN.{length, length-append}
use borrow.Author.Tests.{le-ltb, ltb-true, ltb-false}
use Rattle.matching.specs.declared.order.Request.{Request}
use Rattle.matching.specs.Below.{places_below}
use Rattle.matching.specs.Order.{Family, same_face, choice, equal_places}
use Rattle.matching.specs.Matching.{default_place}
use Rattle.matching.specs.declared.rows.Row.{Row}
use Rattle.matching.specs.Rows.{face_of_row, place_row, family_of_rows}
use Rattle.matching.proofs.Below.{both}
use Rattle.matching.proofs.Alike.{places_agree, choice_same, equal_same, default_same}
use Rattle.query.specs.Offers.{pick, keep, among, held_equal, offers_default, family_offers}
use Rattle.query.specs.CallTables.{held_row}
use Rattle.query.specs.Listed.{equals_chosen, chosen_row, equals_row, default_offered, default_offers}
use Rattle.query.proofs.Picked.{pick_then, pick_append}
use Rattle.query.proofs.KeptPlaces.{equal_kept, none_kept, among_below}

-- ---- the default

module _ (family : Family) (held : ℕ → Bool) (request : Request) where
  -- it is among the held equal faces where it equals the chosen one
  pub default_is : offers_default family held request
      ≡ ltb (default_place family) family.count
      && (held (default_place family)
      && not (ltb (choice family request) family.count && same_face (family.face (default_place family)) (family.face (choice family request))))
  unfolding offers_default held_equal among
  default_is = go (ltb c n) refl
    where
      n : ℕ
      n = family.count

      c : ℕ
      c = choice family request

      d : ℕ
      d = default_place family

      alike : ℕ → Bool
      alike i = same_face (family.face i) (family.face c)

      test : (a h s : Bool) → a && (h && not (a && (h && s))) ≡ a && (h && not s)
      test true true s = refl
      test true false s = refl
      test false h s = refl

      go : (b : Bool) → ltb c n ≡ b
          → ltb d n && (held d && not (among (keep held (equal_places family c)) d)) ≡ ltb d n && (held d && not (b && alike d))
      go true t =
          rw (equal_kept family held c (ltb-true c n t), among_below (λ i. held i && alike i) n d) (test (ltb d n) (held d) (alike d))
      go false t = rw (none_kept family held c (ltb-false c n t)) refl

  pub held_first : family_offers family held request
      ≡ keep held (equal_places family (choice family request)) ++ cond (offers_default family held request) (default_place family ∷ []) []
  unfolding family_offers held_equal
  held_first = refl

-- by the family's rows: what is behind the held faces that equal the chosen one
pub default_offers_lem : (rows : List Row) (members : List ℕ) (count : ℕ) (request : Request)
    → cond (offers_default (family_of_rows rows members count) (held_row rows members) request) (default_place (family_of_rows rows members count) ∷ []) []
    ≡ default_offers rows members count (choice (family_of_rows rows members count) request)
unfolding default_offered default_offers
default_offers_lem rows members count request =
    ap (λ (b : Bool). cond b (default_place (family_of_rows rows members count) ∷ []) []) (default_is (family_of_rows rows members count) (held_row rows members) request)

pub offered_in : (rows : List Row) (members : List ℕ) (count chosen d : ℕ) → default_offered rows members count chosen d ≡ true → d < count
unfolding default_offered
offered_in rows members count chosen d e = ltb-true d count (both (ltb d count) _ e).0

-- a face equals the chosen one where it equals the chosen row
pub by_chosen_row : (rows : List Row) (members : List ℕ) (count chosen : ℕ) (face : Row)
    → equals_row (chosen_row rows members count chosen) face ≡ equals_chosen rows members count chosen face
unfolding chosen_row equals_row
by_chosen_row rows members count chosen face = go (ltb chosen count)
  where
    go : (b : Bool) → equals_row (cond b (Some (place_row rows members chosen)) None) face ≡ b && same_face (face_of_row face) (face_of_row (place_row rows members chosen))
    go true = refl
    go false = refl

-- what follows the answer of the held equal faces, which are all the offers but these
abbrev pub after_equal : List ℕ → (Result ℕ ℕ) → (Result ℕ ℕ)
after_equal rest (Ok p) = Ok p
after_equal rest (Err k) = pick Ok Err rest k

pub then_rest : (xs rest : List ℕ) (n : ℕ) → after_equal rest (pick Ok Err xs n) ≡ pick Ok Err (xs ++ rest) n
then_rest xs rest n = pick_then (after_equal rest) Ok Err xs n ∙ sym (pick_append Ok Err xs rest n)

-- how far past the offers a number lies tells how many there are
abbrev pub Passed : List ℕ → ℕ → (Result ℕ ℕ) → Type 0
Passed xs n (Ok p) = Unit {0}
Passed xs n (Err k) = n ≡ length xs + k

pub passed_by : (xs : List ℕ) (n : ℕ) → Passed xs n (pick Ok Err xs n)
unfolding pick
passed_by [] n = omega arith
passed_by (x ∷ xs) zero = tt
passed_by (x ∷ xs) (suc n) = further xs n (pick Ok Err xs n) (passed_by xs n)
  where
    further : (ys : List ℕ) (m : ℕ) (o : (Result ℕ ℕ)) → Passed ys m o → Passed (x ∷ ys) (suc m) o
    further ys m (Ok p) h = tt
    further ys m (Err k) h = omega arith

-- ---- how many there are

places_few : (p : ℕ → Bool) (n : ℕ) → length (places_below p n) ≤ n
unfolding places_below
places_few p zero = omega arith
places_few p (suc n) = omega (arith, length-append (places_below p n) (cond (p n) (n ∷ []) []), places_few p n, last (p n))
  where
    last : (b : Bool) → length (cond b (n ∷ []) []) ≤ 1
    last true = omega arith
    last false = omega arith

pub offers_few : (family : Family) (held : ℕ → Bool) (request : Request) → length (family_offers family held request) ≤ family.count + 1
unfolding family_offers held_equal
offers_few family held request =
    omega (arith, length-append (keep held (equal_places family c)) (cond (offers_default family held request) (default_place family ∷ []) []), equal (ltb c n) refl, last (offers_default family held request))
  where
    n : ℕ
    n = family.count

    c : ℕ
    c = choice family request

    equal : (b : Bool) → ltb c n ≡ b → length (keep held (equal_places family c)) ≤ n
    equal true e = rw (equal_kept family held c (ltb-true c n e)) (places_few (λ i. held i && same_face (family.face i) (family.face c)) n)
    equal false e = rw (none_kept family held c (ltb-false c n e)) (omega arith)

    last : (b : Bool) → length (cond b (default_place family ∷ []) []) ≤ 1
    last true = omega arith
    last false = omega arith

-- ---- what a family's offers depend on: its count, and below it the faces and which are held

module _ (f g : Family) (a b : ℕ → Bool) (count : f.count ≡ g.count) (faces : (i : ℕ) → i < f.count → f.face i ≡ g.face i) (held : (i : ℕ) → i < f.count → a i ≡ b i) (request : Request) where
  kept_same : (chosen : ℕ) → keep a (equal_places f chosen) ≡ keep b (equal_places f chosen)
  kept_same chosen = go (ltb chosen f.count) refl
    where
      alike : ℕ → Bool
      alike i = same_face (f.face i) (f.face chosen)

      go : (t : Bool) → ltb chosen f.count ≡ t → keep a (equal_places f chosen) ≡ keep b (equal_places f chosen)
      go true e =
          let l = ltb-true chosen f.count e in
          equal_kept f a chosen l
          ∙ places_agree (λ i. a i && alike i) (λ i. b i && alike i) f.count (λ i m k. held i m k && alike i)
          ∙ sym (equal_kept f b chosen l)
      go false e =
          let l = ltb-false chosen f.count e in
          none_kept f a chosen l ∙ sym (none_kept f b chosen l)

  held_same : family_offers f a request ≡ family_offers f b request
  unfolding family_offers held_equal offers_default
  held_same = λ k. listed k ++ cond (offered k) (d ∷ []) []
    where
      d : ℕ
      d = default_place f

      listed : keep a (equal_places f (choice f request)) ≡ keep b (equal_places f (choice f request))
      listed = kept_same (choice f request)

      go : (t : Bool) → ltb d f.count ≡ t
          → t && (a d && not (among (keep a (equal_places f (choice f request))) d)) ≡ t && (b d && not (among (keep b (equal_places f (choice f request))) d))
      go true e = λ k. held d (ltb-true d f.count e) k && not (among (listed k) d)
      go false e = refl

      offered : offers_default f a request ≡ offers_default f b request
      offered = go (ltb d f.count) refl

  faces_same : family_offers f b request ≡ family_offers g b request
  unfolding family_offers held_equal offers_default
  faces_same =
      let equal = equal_same f g count faces (choice f request) ∙ ap (equal_places g) (choice_same f g count faces request) in
      let d = default_same f g count faces in
      λ k. keep b (equal k) ++ cond (ltb (d k) (count k) && (b (d k) && not (among (keep b (equal k)) (d k)))) (d k ∷ []) []

  pub offers_same : family_offers f a request ≡ family_offers g b request
  offers_same = held_same ∙ faces_same

-- "An empty family offers nothing."
pub none_offered : (family : Family) (held : ℕ → Bool) (request : Request) → family.count ≡ 0 → family_offers family held request ≡ []
unfolding family_offers held_equal offers_default
none_offered family held request e =
    rw (none_kept family held (choice family request) (omega arith), le-ltb (default_place family) family.count (omega arith)) refl
