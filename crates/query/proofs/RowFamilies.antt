-- The rows of a family's faces are the family: its offers by rows are its offers by value.
use Prim.Native.Nat.{ℕ, zero, suc, ◌/◌, ◌%◌, ◌≤◌, ◌<◌}
use mathlib.Core.Path.{◌≡◌, refl, sym, ◌∙◌, ap}
use mathlib.Core.Bool.{Bool, true, false, cond}
use mathlib.Core.List.{List, [], ◌∷◌, map}
use native.Mathlib.Omega.{arith}
use lib.Dec.{ltb, eqb}
use lib.ListN.{length, get_or, set, length-map, length-set, get_or-eq_default}
use lib.Seq.{get_or-set_same, get_or-set_other}
use borrow.Author.Tests.{lt-ltb, eq-eqb, ne_eqb, ltb-true, ltb-false}
use Rattle.font.specs.Tables.{u16_at}
use Rattle.font.specs.declared.attributes.Attributes.{Attributes}
use Rattle.matching.specs.declared.order.Request.{Request}
use Rattle.matching.specs.Matching.{face_of, family_of, has_axis, slnt, no_face}
use Rattle.matching.specs.declared.rows.Row.{Row}
use Rattle.matching.specs.Rows.{no_row, face_of_row, place_row, family_of_rows, row_of}
use Rattle.matching.proofs.Gathered.{row_face}
use Rattle.matching.proofs.Ranks.{Tri, low, same, high, tri}
use Rattle.query.specs.Sizes.{most_families}
use Rattle.query.specs.Entries.{Family}
use Rattle.query.specs.Job.{job_of}
use Rattle.query.specs.View.{View, families_of, view_by, view_of}
use Rattle.query.specs.Offers.{family_offers, members_of, faces_of, held_in, number_offers}
use Rattle.query.specs.CallTables.{marks, is_held, held_row, begin_of, known_of, Uncounted, members_in, FamilyIn, TablesOf, RowsShow}
use Rattle.query.specs.Listed.{MembersKnown, members_at, offers_at, row_family, row_held, row_offers, Counted}
use Rattle.query.proofs.Members.{number_of}
use Rattle.query.proofs.FamilyLists.{offers_few, offers_same, none_offered}

-- ---- the marks of a row

pub slant_marked : (entry : ℕ) (held slant : Bool) → eqb (marks entry held slant % 2) 1 ≡ slant
unfolding marks
slant_marked e true true = eq-eqb (marks e true true % 2) 1 (omega arith)
slant_marked e true false = ne_eqb (marks e true false % 2) 1 (omega arith)
slant_marked e false true = eq-eqb (marks e false true % 2) 1 (omega arith)
slant_marked e false false = ne_eqb (marks e false false % 2) 1 (omega arith)

pub held_marked : (a : Attributes) (entry : ℕ) (held slant : Bool) → is_held (row_of a (marks entry held slant)) ≡ held
unfolding is_held row_of marks
held_marked a e true true = eq-eqb (marks e true true / 2 % 2) 1 (omega arith)
held_marked a e true false = eq-eqb (marks e true false / 2 % 2) 1 (omega arith)
held_marked a e false true = ne_eqb (marks e false true / 2 % 2) 1 (omega arith)
held_marked a e false false = ne_eqb (marks e false false / 2 % 2) 1 (omega arith)

-- ---- families by value

-- within a list it is no matter what stands past it
map_at : {A B : Type 0} (f : A → B) (xs : List A) (i : ℕ) (d : A) (e : B) → i < length xs → get_or (map f xs) i e ≡ f (get_or xs i d)
map_at f [] i d e l = absurd (omega arith)
map_at f (x ∷ xs) zero d e l = refl
map_at f (x ∷ xs) (suc i) d e l = map_at f xs i d e (omega arith)

-- an unknown number has no faces, and so no offers
pub number_offers_lem : (view : View) (request : Request) (f : ℕ)
    → number_offers view request f ≡ family_offers (family_of (faces_of view f) (length (faces_of view f))) (held_in view f) request
unfolding number_offers faces_of members_of family_of
number_offers_lem view request f = go (ltb f (length view.families)) refl
  where
    all : List ℕ
    all = family_offers (family_of (faces_of view f) (length (faces_of view f))) (held_in view f) request

    no_faces : length view.families ≤ f → length (faces_of view f) ≡ 0
    no_faces l = rw (get_or-eq_default view.families [] l) refl

    empty : length view.families ≤ f → all ≡ []
    empty l = none_offered (family_of (faces_of view f) (length (faces_of view f))) (held_in view f) request (no_faces l)

    go : (b : Bool) → ltb f (length view.families) ≡ b → cond b all [] ≡ all
    go true e = refl
    go false e = sym (empty (ltb-false f (length view.families) e))

-- ---- families of a job, by its rows

module _ {s : List ℕ} {rows : List Row} {families : List ℕ} (loaded : TablesOf s rows families) where
  no_members : (f : ℕ) → most_families ≤ f → members_in s f ≡ []
  unfolding families_of
  no_members f l =
      get_or-eq_default (families_of (job_of s)) [] (omega (arith, loaded.known, length-map (job_of s).families (λ (m : Family). m.members)))

  pub unknown_number : (request : Request) (f : ℕ) → most_families ≤ f → row_offers s rows request f ≡ []
  unfolding row_offers row_family
  unknown_number request f l = none_offered (row_family s rows f) (row_held s rows f) request (ap length (no_members f l))

  module _ (f : ℕ) (below : f < most_families) where
    abbrev at : ℕ
    at = begin_of (get_or families f 0)

    abbrev members : List ℕ
    members = members_in s f

    lies : FamilyIn s at (length (job_of s).faces) members
    lies = loaded.family f below

    pub members_known : MembersKnown s at (length rows)
    members_known =
        record {
          few = omega (arith, lies.count, lies.few);
          whole = λ h. omega (arith, lies.count, lies.whole (λ e. h (lies.count ∙ e)));
          known = λ i l. (let m : i < length members = omega (arith, lies.count) in omega (arith, lies.member i m, lies.known i m, loaded.room));
        }

    -- the row of a place is that of the family's face there
    row_at : (i : ℕ) → i < length members → place_row rows (members_at s at) i ≡ get_or rows (get_or members i 0) no_row
    unfolding place_row
    row_at i l =
        rw (number_of s at (members_known.whole (λ e. omega (arith, lies.count))) i (omega (arith, lies.count)), lies.member i l)

    pub number_by_rows : (request : Request) → offers_at s at rows request ≡ row_offers s rows request f
    unfolding offers_at row_offers row_family row_held held_row
    number_by_rows request =
        offers_same (family_of_rows rows (members_at s at) (u16_at s at)) (row_family s rows f) (held_row rows (members_at s at)) (row_held s rows f)
        lies.count
        (λ i l. ap face_of_row (row_at i (omega (arith, lies.count))))
        (λ i l. ap is_held (row_at i (omega (arith, lies.count))))
        request

    pub number_few : (request : Request) → length (row_offers s rows request f) ≤ 65
    unfolding offers_at
    number_few request =
        rw (← number_by_rows request)
        (let m = offers_few (family_of_rows rows (members_at s at) (u16_at s at)) (held_row rows (members_at s at)) request in omega (arith, m, members_known.few))

    -- ---- a count that is noted

    module _ (request : Request) (counted : Counted s rows request families) (v : ℕ) (begins : begin_of v ≡ begin_of (get_or families f 0)) (known : known_of v ≡ suc (length (row_offers s rows request f))) where
      abbrev after : ℕ → ℕ
      after g = get_or (set families f v) g 0

      here : (g : ℕ) → g ≡ f → after g ≡ v
      here g q = ap after q ∙ get_or-set_same families f v 0 (omega (arith, loaded.long))

      other : (g : ℕ) → (g ≡ f → ⊥) → after g ≡ get_or families g 0
      other g h = get_or-set_other families f g v 0 h

      pub still_loaded : TablesOf s rows (set families f v)
      still_loaded =
          record {
            accepted = loaded.accepted;
            room = loaded.room;
            row = loaded.row;
            long = length-set families f v ∙ loaded.long;
            family = λ g k. family g k (tri g f);
            known = loaded.known;
          }
        where
          same_begin : (g : ℕ) → Tri g f → begin_of (after g) ≡ begin_of (get_or families g 0)
          same_begin g (low q) = ap begin_of (other g (omega arith))
          same_begin g (same q) = ap begin_of (here g q) ∙ begins ∙ ap (λ (i : ℕ). begin_of (get_or families i 0)) (sym q)
          same_begin g (high q) = ap begin_of (other g (omega arith))

          family : (g : ℕ) → g < most_families → Tri g f → FamilyIn s (begin_of (after g)) (length (job_of s).faces) (members_in s g)
          family g k t = rw (same_begin g t) (loaded.family g k)

      pub one_counted : Counted s rows request (set families f v)
      one_counted = record { right = λ g k. right g k (tri g f) }
        where
          right : (g : ℕ) → g < most_families → Tri g f → (known_of (after g) ≡ 0 → ⊥) → known_of (after g) ≡ suc (length (row_offers s rows request g))
          right g k (low q) = rw (other g (omega arith)) (counted.right g k)
          right g k (same q) = λ n. ap known_of (here g q) ∙ known ∙ ap (λ (i : ℕ). suc (length (row_offers s rows request i))) (sym q)
          right g k (high q) = rw (other g (omega arith)) (counted.right g k)

-- none is counted yet
pub none_counted : (s : List ℕ) (rows : List Row) (request : Request) (families : List ℕ) → Uncounted families → Counted s rows request families
none_counted s rows request families fresh = record { right = λ f l n. absurd (n (omega (arith, fresh f l))) }

-- ---- rows of a view

module _ (reading : ℕ) {s : List ℕ} {rows : List Row} {families : List ℕ} (loaded : TablesOf s rows families) (shows : RowsShow reading s rows) where
  abbrev view : View
  view = view_of reading (job_of s)

  face_at_lem : (i : ℕ) → i < length (job_of s).faces → face_of_row (get_or rows i no_row) ≡ face_of (view.font i)
  face_at_lem i l =
      let r = shows i l in
      let font = view.font i in
      ap face_of_row r.is ∙ row_face font (marks r.entry (view.held i) (has_axis font slnt)) (slant_marked r.entry (view.held i) (has_axis font slnt))

  held_at : (i : ℕ) → i < length (job_of s).faces → is_held (get_or rows i no_row) ≡ view.held i
  held_at i l =
      let r = shows i l in
      let font = view.font i in
      ap is_held r.is ∙ held_marked font.attributes r.entry (view.held i) (has_axis font slnt)

  -- each face number of a family is of the job
  member_known : (f i : ℕ) → i < length (members_in s f) → get_or (members_in s f) i 0 < length (job_of s).faces
  member_known f i l = go (ltb f most_families) refl
    where
      go : (b : Bool) → ltb f most_families ≡ b → get_or (members_in s f) i 0 < length (job_of s).faces
      go true e = (loaded.family f (ltb-true f most_families e)).known i l
      go false e = absurd (omega (arith, ap length (no_members loaded f (ltb-false f most_families e))))

  -- the offers by rows are the view's
  pub rows_show : (request : Request) (f : ℕ) → row_offers s rows request f ≡ number_offers view request f
  unfolding row_offers row_family row_held family_of faces_of members_of held_in view_of view_by
  rows_show request f =
      offers_same (row_family s rows f) (family_of (faces_of view f) (length (faces_of view f))) (row_held s rows f) (held_in view f)
      (sym many)
      (λ i l.
      face_at_lem (get_or (members_in s f) i 0) (member_known f i l)
      ∙ sym (rw (lt-ltb i (length (faces_of view f)) (omega (arith, many))) (ap face_of (map_at view.font (members_in s f) i 0 no_face l))))
      (λ i l. held_at (get_or (members_in s f) i 0) (member_known f i l))
      request
      ∙ sym (number_offers_lem view request f)
    where
      many : length (faces_of view f) ≡ length (members_in s f)
      many = length-map (members_in s f) view.font
