-- Two jobs within the limits that differ in fonts with the same tables alone are answered alike, but for the `cmap` offset (`specs/LoneFonts.antt`).
use Rattle.std.specs.Prelude.{Option, None, Some}
use Prim.Native.Nat.{ℕ, zero, suc, ◌<◌}
use mathlib.Core.Path.{◌≡◌, refl, sym, ap, ◌∙◌, subst}
use mathlib.Core.Bool.{Bool, true, false, cond}
use mathlib.Core.List.{List, [], ◌∷◌, ◌++◌, map}
use native.Mathlib.Omega.{arith}
use lib.Dec.{ltb, eqb, lit<}
use borrow.Author.Tests.{le-leb}
use lib.ListN.{length, get_or, take, drop, length-map, get_or-map}
use Rattle.font.specs.declared.font.FontInfo.{FontInfo}
use Rattle.font.specs.Slant.{is_reading}
use Rattle.font.specs.Overrides.{with_override}
use Rattle.font.specs.LookedAt.{subtable_at, MovedWithCmap}
use Rattle.font.specs.Tables.{u16_at, u32_at}
use Rattle.font.specs.Collection.{is_collection}
use Rattle.font.specs.Font.{font_refusal}
use Rattle.font.proofs.FaceOf.{under_reading}
use Rattle.font.proofs.SameFonts as SameFonts
use Rattle.font.proofs.SameFonts.{same_font, subtables, directory, lone, collection}
use Rattle.matching.specs.declared.order.Request as Matching
use Rattle.matching.specs.Matching.{face_of, axis_at, axis_count_of, axis_place, has_axis, no_face, blank, family_of, request_of}
use Rattle.matching.specs.Synthesis.{varies_of}
use Rattle.query.specs.declared.answer.Offer.{Offer}
use Rattle.query.specs.Call.{CallAnswer}
use Rattle.query.specs.Sizes.{record_size, most_bytes}
use Rattle.query.specs.Entries.{Face, Override, Family, Request}
use Rattle.query.specs.Job.{Job}
use Rattle.query.specs.Layout.{bytes8, bytes16, bytes32, each, after16, layout_number, layout_font, layout_face, layout_family, layout, Every, Fits16, Fits32, FaceFits, FamilyFits, JobFits}
use Rattle.query.specs.View.{View, overridden_by, after_overrides, no_entry, entry_of, stated_by, families_of, view_by, view_of}
use Rattle.query.specs.Offers.{pick, offer_of, members_of, faces_of, held_in, face_of_offer, synthesis_of_offer, number_offers, in_turn, offers, offers_of, offer_at}
use Rattle.query.specs.Record.{head_bytes, slot_bytes, slot_at, index_bytes, record_bytes}
use Rattle.query.specs.Call.{without_offer, with_synthesis, answered, request_of_job, view_answer, request_answer, answer_call, written, unwritten, Called, offer_call}
use Rattle.query.specs.Demands.{family_at}
use Rattle.query.specs.LoneFonts.{SameEntry, SameEntries, none, more, SameJobs, font_of_offer, AnswersAlike, CallsAlike, AnsweredAlike}
use Rattle.query.proofs.AcceptedJobs.{layout_is_accepted}
use Rattle.query.proofs.SoundOffers.{Sound, offers_sound}
use Rattle.query.proofs.AnswerCases.{no_reading, called, kept_index}

-- ---- the offers do not look at where a charmap subtable lies

-- a view whose face x has its subtable at `at x`
unfoldable placed : (ℕ → ℕ) → View → View
placed at view = record { font = λ x. subtable_at (at x) (view.font x); held = view.held; families = view.families }

module _ (at : ℕ → ℕ) (view : View) where
  face_same : (members : List ℕ) (i : ℕ) → face_of (get_or (map (placed at view).font members) i no_face) ≡ face_of (get_or (map view.font members) i no_face)
  unfolding placed subtable_at face_of has_axis axis_place axis_count_of axis_at
  face_same [] i = refl
  face_same (m ∷ ms) zero = refl
  face_same (m ∷ ms) (suc i) = face_same ms i

  family_same : (f : ℕ) → family_of (faces_of (placed at view) f) (length (faces_of (placed at view) f)) ≡ family_of (faces_of view f) (length (faces_of view f))
  unfolding placed family_of faces_of members_of
  family_same f =
      let members = members_of view f in
      let many = length-map members (placed at view).font ∙ sym (length-map members view.font) in
      λ k. record { count = many k; face = λ i. cond (ltb i (many k)) (face_same members i k) blank }

  number_same : (request : Matching.Request) (f : ℕ) → number_offers (placed at view) request f ≡ number_offers view request f
  unfolding placed number_offers held_in members_of
  number_same request f = rw (family_same f)

  turns_same : (request : Matching.Request) (numbers : List ℕ) → in_turn (number_offers (placed at view) request) numbers ≡ in_turn (number_offers view request) numbers
  unfolding in_turn
  turns_same request [] = refl
  turns_same request (f ∷ fs) = λ k. map (offer_of f) (number_same request f k) ++ turns_same request fs k

  offers_same : (r : Request) → offers_of (placed at view) r ≡ offers_of view r
  unfolding offers_of offers
  offers_same r = ap (take r.most) (turns_same (request_of r.attributes true) (r.families ++ r.fallbacks))

-- ---- the view of a job

-- overrides keep where it lies
overrides_keep : (os : List Override) (x n : ℕ) (f : FontInfo) → after_overrides os x (subtable_at n f) ≡ subtable_at n (after_overrides os x f)
unfolding after_overrides overridden_by with_override subtable_at
overrides_keep [] x n f = refl
overrides_keep (o ∷ os) x n f = ap (after_overrides os x) (one (eqb o.face x)) ∙ overrides_keep os x n (cond (eqb o.face x) (overridden_by o f) f)
  where
    one : (b : Bool) → cond b (overridden_by o (subtable_at n f)) (subtable_at n f) ≡ subtable_at n (cond b (overridden_by o f) f)
    one true = refl
    one false = refl

-- where the subtable of a face lies
abbrev subtable : FontInfo → ℕ
subtable f = f.charmap_index.subtable_offset

-- two entries that give one face but for that
record Seen (reading : ℕ) (a b : Face) : Type 0 where
  held : a.held ≡ b.held
  face : stated_by reading a.font ≡ subtable_at (subtable (stated_by reading a.font)) (stated_by reading b.font)

seen : (reading : ℕ) {a b : Face} → SameEntry a b → Seen reading a b
unfolding stated_by
seen reading {a} {b} h =
    record { held = h.held; face = (same_font a.font.file a.font.number b.font.file b.font.number h.font).face reading }

seen_at : (reading : ℕ) {es gs : List Face} → SameEntries es gs → (x : ℕ) → Seen reading (entry_of es x) (entry_of gs x)
unfolding entry_of subtable_at
seen_at reading none x = record { held = refl; face = refl }
seen_at reading (more h r) zero = seen reading h
seen_at reading (more h r) (suc x) = seen_at reading r x

-- ---- what an offer names

every_in : {A : Type 0} (P : A → Type 0) (d : A) (xs : List A) → Every P xs → (k : ℕ) → k < length xs → P (get_or xs k d)
unfolding Every
every_in P d [] w k l = absurd (omega arith)
every_in P d (x ∷ xs) w zero l = w.0
every_in P d (x ∷ xs) w (suc k) l = every_in P d xs w.1 k (omega arith)

entry_at : {es gs : List Face} → SameEntries es gs → (x : ℕ) → x < length gs → (x < length es) × SameEntry (entry_of es x) (entry_of gs x)
unfolding entry_of
entry_at none x l = absurd (omega arith)
entry_at (more h r) zero l = (omega arith, h)
entry_at (more h r) (suc x) l = let e = entry_at r x (omega arith) in (omega arith, e.1)

-- the number of the face that an offer names
abbrev named : Job → Offer → ℕ
named job o = get_or (get_or (families_of job) o.family []) o.place 0

-- it is one of the job's
named_known : (reading : ℕ) (job : Job) → JobFits job → (request : Matching.Request) (o : Offer) → Sound (view_of reading job) request o
    → named job o < length job.faces
unfolding view_of view_by families_of members_of
named_known reading job fits request o h =
    let n = length job.faces in
    let none : Family = record { members = [] } in
    let there : o.family < length job.families = omega (arith, h.0, length-map job.families (λ (m : Family). m.members)) in
    let family = every_in (FamilyFits n) none job.families fits.families.1 o.family there in
    let same = get_or-map (λ (m : Family). m.members) job.families o.family none in
    (every_in (λ i. (i < n) × Fits16 i) 0 (get_or (families_of job) o.family []) (rw same family.members) o.place h.1).0

-- the offer of a number is one of the list, or lies past it
module _ (P : Offer → Type 0) (Q : (Option Offer) → Type 0) (found : (o : Offer) → P o → Q (Some o)) (past : Q None) where
  offered_in : (xs : List Offer) → ((k : ℕ) → k < length xs → P (get_or xs k (offer_of 0 0))) → (n : ℕ) → Q (offer_at xs n)
  unfolding offer_at pick
  offered_in [] h n = past
  offered_in (x ∷ xs) h zero = found x (h 0 (omega arith))
  offered_in (x ∷ xs) h (suc n) = offered_in xs (λ k l. h (suc k) (omega arith)) n

-- ---- answers without an offer, and the outputs

none_alike : (i j : Job) (n : ℕ) → (n ≡ 0 → ⊥) → AnswersAlike i j (without_offer n) (without_offer n)
unfolding without_offer
none_alike i j n h = record { result = refl; offer = refl; synthesis = refl; symbol = refl; roman = refl; offset = λ z. absurd (h z) }

-- the 40 bytes of two answers
bytes_alike : {i j : Job} {a b : CallAnswer} → AnswersAlike i j a b
    → (take 32 (record_bytes a.offer a.synthesis a.charmap_index) ≡ take 32 (record_bytes b.offer b.synthesis b.charmap_index))
    × (drop 36 (record_bytes a.offer a.synthesis a.charmap_index) ≡ drop 36 (record_bytes b.offer b.synthesis b.charmap_index))
unfolding record_bytes head_bytes slot_at slot_bytes index_bytes bytes16 bytes32
bytes_alike h = (
  (λ k. take 32 (record_bytes (h.offer k) (h.synthesis k) (record { subtable_offset = 0; is_symbol = h.symbol k; is_mac_roman = h.roman k }))),
  (λ k. drop 36 (record_bytes (h.offer k) (h.synthesis k) (record { subtable_offset = 0; is_symbol = h.symbol k; is_mac_roman = h.roman k }))),
)

written_alike : {i j : Job} {a b : CallAnswer} → AnswersAlike i j a b → (out : List ℕ) → CallsAlike (written a out) (written b out)
unfolding written unwritten
written_alike {a = a} {b = b} h out = rw h.result (go (eqb b.result 0))
  where
    bytes : CallAnswer → Called
    bytes x = record { result = 0; output = record_bytes x.offer x.synthesis x.charmap_index }

    go : (z : Bool) → CallsAlike (cond z (bytes a) (unwritten b.result out)) (cond z (bytes b) (unwritten b.result out))
    go true = record { result = refl; before = (bytes_alike h).0; behind = (bytes_alike h).1 }
    go false = record { result = refl; before = refl; behind = refl }

-- ---- two such jobs

module _ (i j : Job) (fits-i : JobFits i) (fits-j : JobFits j) (same : SameJobs i j) (reading : ℕ) where
  abbrev lies : ℕ → ℕ
  lies x = subtable (stated_by reading (entry_of i.faces x).font)

  font_same : (x : ℕ) → (view_of reading i).font x ≡ subtable_at (lies x) ((view_of reading j).font x)
  unfolding view_of view_by
  font_same x =
      ap (λ (os : List Override). after_overrides os x (stated_by reading (entry_of i.faces x).font)) same.overrides
      ∙ ap (after_overrides j.overrides x) (seen_at reading same.faces x).face
      ∙ overrides_keep j.overrides x (lies x) (stated_by reading (entry_of j.faces x).font)

  view_same : view_of reading i ≡ placed lies (view_of reading j)
  unfolding view_of view_by families_of placed
  view_same =
      λ k.
      record {
        font = λ x. font_same x k;
        held = λ x. (seen_at reading same.faces x).held k;
        families = map (λ (m : Family). m.members) (same.families k);
      }

  -- the face x: its subtable is moved as its `cmap`
  moved : is_reading reading ≡ true → (x : ℕ) → x < length j.faces
      → MovedWithCmap (entry_of i.faces x).font.file (entry_of i.faces x).font.number (entry_of j.faces x).font.file (entry_of j.faces x).font.number (lies x)
      (subtable ((view_of reading j).font x))
  unfolding view_of view_by entry_of stated_by
  moved known x l =
      let e = entry_at same.faces x l in
      let taken = (every_in FaceFits no_entry i.faces fits-i.faces.1 x e.0).taken in
      rw (kept_index j.overrides x (stated_by reading (entry_of j.faces x).font))
      ((same_font _ _ _ _ e.1.font).offset reading (under_reading reading _ _ known ∙ taken))

  -- one place of one family names the face of one number in both
  named_same : (o : Offer) → named i o ≡ named j o
  unfolding families_of
  named_same o = ap (λ (fs : List Family). get_or (get_or (map (λ (m : Family). m.members) fs) o.family []) o.place 0) same.families

  at_alike : is_reading reading ≡ true → (r : Request) (o : Offer) → named j o < length j.faces
      → AnswersAlike i j (answered reading (placed lies (view_of reading j)) r (Some o)) (answered reading (view_of reading j) r (Some o))
  unfolding answered with_synthesis synthesis_of_offer face_of_offer members_of view_of view_by placed subtable_at varies_of has_axis axis_place axis_count_of axis_at font_of_offer
  at_alike reads r o known = go (eqb (synthesis_of_offer (view_of reading j) reading r o).refusal 29)
    where
      answer : Bool → ℕ → CallAnswer
      answer b at =
          cond b (without_offer 29)
          (record {
            result = 0;
            offer = o;
            synthesis = synthesis_of_offer (view_of reading j) reading r o;
            charmap_index = (subtable_at at (face_of_offer (view_of reading j) o)).charmap_index;
          })

      go : (b : Bool) → AnswersAlike i j (answer b (lies (named j o))) (answer b (subtable (face_of_offer (view_of reading j) o)))
      go true = none_alike i j 29 (λ z. omega (arith, z))
      go false =
          record { result = refl; offer = refl; synthesis = refl; symbol = refl; roman = refl; offset = λ z. rw (named_same o, font_of_offer) (moved reads (named j o) known) }

  past_alike : (r : Request) → AnswersAlike i j (answered reading (placed lies (view_of reading j)) r None) (answered reading (view_of reading j) r None)
  unfolding answered
  past_alike r = none_alike i j 1 (λ z. omega (arith, z))

  module _ (k n : ℕ) where
    abbrev list : List Offer
    list = offers_of (view_of reading j) (request_of_job j k)

    request_same : request_of_job i k ≡ request_of_job j k
    unfolding request_of_job
    request_same = rw same.requests

    list_same : offers_of (view_of reading i) (request_of_job i k) ≡ list
    list_same = (λ m. offers_of (view_same m) (request_same m)) ∙ offers_same lies (view_of reading j) (request_of_job j k)

    answer_same : request_answer reading i k n ≡ cond (ltb k (length j.requests)) (answered reading (placed lies (view_of reading j)) (request_of_job j k) (offer_at list n)) (without_offer 28)
    unfolding request_answer view_answer
    answer_same = λ m. cond (ltb k (length (same.requests m))) (answered reading (view_same m) (request_same m) (offer_at (list_same m) n)) (without_offer 28)

    request_alike : is_reading reading ≡ true → AnswersAlike i j (request_answer reading i k n) (request_answer reading j k n)
    unfolding request_answer view_answer offers_of
    request_alike reads = subst (λ (a : CallAnswer). AnswersAlike i j a (request_answer reading j k n)) (sym answer_same) (go (ltb k (length j.requests)))
      where
        r : Request
        r = request_of_job j k

        wanted : Matching.Request
        wanted = request_of r.attributes true

        go : (b : Bool)
            → AnswersAlike i j (cond b (answered reading (placed lies (view_of reading j)) r (offer_at list n)) (without_offer 28)) (cond b (answered reading (view_of reading j) r (offer_at list n)) (without_offer 28))
        go true =
            offered_in (Sound (view_of reading j) wanted) (λ q. AnswersAlike i j (answered reading (placed lies (view_of reading j)) r q) (answered reading (view_of reading j) r q))
            (λ o h. at_alike reads r o (named_known reading j fits-j wanted o h))
            (past_alike r)
            list
            (offers_sound (view_of reading j) wanted r.most r.families r.fallbacks)
            n
        go false = none_alike i j 28 (λ z. omega (arith, z))

    -- a value that is no reading is refused by both
    none_read : (job : Job) → JobFits job → is_reading reading ≡ false → answer_call (layout job) reading k n ≡ without_offer 25
    none_read job fits unread =
        sym (no_reading (layout job) reading unread k n) ∙ ap (λ (b : Bool). without_offer (cond b 25 17)) (le-leb (length (layout job)) most_bytes fits.bytes)

    answers_alike : AnswersAlike i j (answer_call (layout i) reading k n) (answer_call (layout j) reading k n)
    answers_alike = go (is_reading reading) refl
      where
        go : (b : Bool) → is_reading reading ≡ b → AnswersAlike i j (answer_call (layout i) reading k n) (answer_call (layout j) reading k n)
        go true e =
            rw (called (layout i) reading e k n i _ (layout_is_accepted i fits-i), called (layout j) reading e k n j _ (layout_is_accepted j fits-j)) (request_alike e)
        go false e = rw (none_read i fits-i e, none_read j fits-j e) (none_alike i j 25 (λ z. omega (arith, z)))

    calls_alike : (out : List ℕ) → CallsAlike (offer_call (layout i) reading k n out) (offer_call (layout j) reading k n out)
    unfolding offer_call
    calls_alike out = go (eqb (length out) record_size)
      where
        called_by : Job → Bool → Called
        called_by job z = cond z (written (answer_call (layout job) reading k n) out) (unwritten 16 out)

        go : (z : Bool) → CallsAlike (called_by i z) (called_by j z)
        go true = written_alike answers_alike out
        go false = record { result = refl; before = refl; behind = refl }

  order_same : (f : ℕ) → family_at reading i f ≡ family_at reading j f
  order_same f = (λ m. family_of (faces_of (view_same m) f) (length (faces_of (view_same m) f))) ∙ family_same lies (view_of reading j) f

pub lone_fonts : (i j : Job) → JobFits i → JobFits j → SameJobs i j → AnsweredAlike i j
lone_fonts i j fits-i fits-j same =
    record {
      order = order_same i j fits-i fits-j same;
      answers = answers_alike i j fits-i fits-j same;
      calls = calls_alike i j fits-i fits-j same;
    }

-- ---- an example: a job of one face, which is a collection's font or a lone font with the same table

one_face : List ℕ → ℕ → Job
one_face file number =
    record {
      faces = record { held = true; font = record { file = file; number = number } } ∷ [];
      overrides = [];
      families = record { members = 0 ∷ [] } ∷ [];
      requests = [];
    }

record Example : Type 0 where
  same : SameJobs (one_face collection 1) (one_face lone 0)
  first_fits : JobFits (one_face collection 1)
  second_fits : JobFits (one_face lone 0)

example : Example
unfolding Every one_face collection lone subtables directory layout after16 each layout_face layout_font layout_number layout_family bytes8 bytes16 bytes32 is_collection u32_at u16_at
example =
    record {
      same = record { faces = more (record { held = refl; font = (SameFonts.example).same }) none; overrides = refl; families = refl; requests = refl };
      first_fits = fits collection 1 (lit< tt) (lit< tt) (SameFonts.example).taken (lit< tt);
      second_fits = fits lone 0 (lit< tt) (lit< tt) lone_taken (lit< tt);
    }
  where
    lone_taken : font_refusal lone 0 ≡ 0
    lone_taken = sym (same_font collection 1 lone 0 (SameFonts.example).same).refusal ∙ (SameFonts.example).taken

    fits : (file : List ℕ) (number : ℕ) → Fits32 (length file) → Fits16 number → font_refusal file number ≡ 0 → length (layout (one_face file number)) < 16777217 → JobFits (one_face file number)
    fits file number long small taken bytes =
        record {
          bytes = omega (arith, bytes);
          faces = (omega arith, (record { long = long; number = small; taken = taken }, tt));
          overrides = (omega arith, tt);
          families = (omega arith, (record { few = omega arith; members = ((omega arith, omega arith), tt) }, tt));
          requests = (omega arith, tt);
        }
