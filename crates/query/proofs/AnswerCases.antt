-- The offer call, case by case: what each return of its code has to show.
use Rattle.std.specs.Prelude.{Option, None, Some}
use Prim.Native.Nat.{ℕ, zero, suc, ◌+◌, ◌-◌, ◌^◌, ◌≤◌, ◌<◌}
use mathlib.Core.Path.{◌≡◌, refl, sym, ap, ◌∙◌}
use mathlib.Core.Bool.{Bool, true, false, cond}
use mathlib.Core.List.{List, [], ◌∷◌}
use native.Mathlib.Omega.{arith}
use lib.Dec.{leb, ltb, eqb}
use lib.ListN.{length, get_or}
use borrow.Author.Tests.{lt-ltb, le-ltb, ltb-true, ltb-false, eq-eqb, ne_eqb}
use Rattle.font.specs.declared.attributes.Angle.TheVariants.{Unstated, Degrees}
use Rattle.font.specs.declared.attributes.FontStyle.{FontStyle}
use Rattle.font.specs.declared.attributes.FontStyle.TheVariants.{Normal, Italic, Oblique}
use Rattle.font.specs.declared.attributes.Attributes.{Attributes}
use Rattle.font.specs.declared.charmap.CharmapIndex.{CharmapIndex}
use Rattle.font.specs.declared.font.FontInfo.{FontInfo}
use Rattle.font.specs.Attributes.{accepted_angle, accepted_style, accepted_attributes}
use Rattle.font.specs.Slant.{is_reading}
use Rattle.font.specs.Overrides.{with_override}
use Rattle.font.proofs.Inside.{offset_inside}
use Rattle.matching.specs.declared.order.Request as Matching
use Rattle.matching.specs.Synthesis.{SynthesisAnswer}
use Rattle.matching.specs.declared.synthesis.Varies.{Varies}
use Rattle.matching.specs.Matching.{request_of}
use Rattle.matching.specs.Synthesis.{unvaried, synthesized, varies_of}
use Rattle.matching.proofs.SettingValues.{setting_numbers}
use Rattle.matching.specs.declared.rows.Row.{Row}
use Rattle.matching.proofs.ThreeSettings.{three}
use Rattle.query.specs.declared.answer.Offer.{Offer}
use Rattle.query.specs.Call.{CallAnswer}
use Rattle.query.specs.Listed.{SearchResult}
use Rattle.query.specs.Job.{Checked}
use Rattle.query.specs.Positions.{WalkEnd, AskedAt}
use Rattle.query.specs.Sizes.{record_size, most_bytes}
use Rattle.query.specs.Reader.{overlong, number, Got, refused, got}
use Rattle.query.specs.Layout.{Bytes, angle_of, Every, Fits32, AngleFits, StyleFits, FaceFits, RequestFits, JobFits}
use Rattle.query.specs.Entries.{Face, Override, Request}
use Rattle.query.specs.Job.{Job, read_sections, read_job, answer, check_job, job_of}
use Rattle.query.specs.View.{View, overridden_by, after_overrides, no_entry, entry_of, stated_by, view_by, view_of}
use Rattle.query.specs.Offers.{offer_of, members_of, offers, offers_of, face_of_offer, synthesis_of_offer, offer_at}
use Rattle.query.specs.Values.{attributes_at, request_at}
use Rattle.query.specs.CallTables.{OfferedFace, RequestIn, RowsShow, TablesOf, LoadAnswer}
use Rattle.query.specs.Listed.{listed_at, Names, answer_at, found_nothing, Locates, SearchAnswer, LeadsTo}
use Rattle.query.specs.Record.{Numbers, record_bytes}
use Rattle.query.specs.Call.{Called, without_offer, with_synthesis, answered, request_of_job, view_answer, request_answer, job_answer, refuses_reading, answer_call, written, unwritten, offer_call, Calls}
use Rattle.query.proofs.AcceptedJobs.{accepted_is_a_layout}
use Rattle.query.proofs.Checks.{accepted}
use Rattle.query.proofs.FamiliesAt.{request_in}
use Rattle.query.proofs.RowFamilies.{rows_show}
use Rattle.query.proofs.Picked.{pick_in, pick_past}
use Rattle.query.proofs.SoundOffers.{offers_named}

-- ---- the answer to a request and an offer number

-- a search that gives a result alone
pub finds_none : {reading : ℕ} {s : List ℕ} {a : CallAnswer} (n : ℕ) → (n ≡ 0 → ⊥) → without_offer n ≡ a → LeadsTo reading s a (found_nothing n)
unfolding found_nothing
finds_none n h e = record { readable = λ z. absurd (h z); leads = λ r. r.none h ∙ e }

pub leads_none : {reading : ℕ} {s : List ℕ} {a : CallAnswer} (n : ℕ) → (n ≡ 0 → ⊥) → LeadsTo reading s a (found_nothing n) → without_offer n ≡ a
unfolding found_nothing
leads_none n h finds = finds.leads (record { none = λ _. refl; some = λ z. absurd (h z) })

pub finds_same : {reading : ℕ} {s : List ℕ} {a b : CallAnswer} {f : SearchResult} → a ≡ b → LeadsTo reading s a f → LeadsTo reading s b f
finds_same e finds = record { readable = finds.readable; leads = λ r. finds.leads r ∙ e }

-- a value that is no reading: 25, but 17 where the job is too long
module _ (s : List ℕ) (reading : ℕ) (none : is_reading reading ≡ false) (k n : ℕ) where
  pub no_reading : without_offer (cond (leb (length s) most_bytes) 25 17) ≡ answer_call s reading k n
  unfolding answer_call read_job job_answer number
  no_reading = rw none (go (leb (length s) most_bytes))
    where
      go : (b : Bool) → without_offer (cond b 25 17) ≡ cond b (without_offer 25) (job_answer reading (cond b (read_sections s 0) (refused overlong 0)) k n)
      go true = refl
      go false = refl

-- under a reading
module _ (s : List ℕ) (reading : ℕ) (known : is_reading reading ≡ true) (k n : ℕ) where
  by_job : answer_call s reading k n ≡ job_answer reading (read_job s) k n
  unfolding answer_call
  by_job = rw known

  pub job_refused : (r : ℕ) → r ≡ (check_job s).refusal → (r ≡ 0 → ⊥) → without_offer r ≡ answer_call s reading k n
  unfolding check_job answer job_answer
  job_refused r same h = go (read_job s) same ∙ sym by_job
    where
      go : (g : Got Job) → r ≡ (answer g).refusal → without_offer r ≡ job_answer reading g k n
      go (refused w p) e = ap without_offer e
      go (got j p) e = absurd (h e)

  module _ (j : Job) (e : ℕ) (read : read_job s ≡ got j e) where
    pub called : answer_call s reading k n ≡ request_answer reading j k n
    unfolding job_answer
    called = by_job ∙ rw read

    pub no_request : length j.requests ≤ k → answer_call s reading k n ≡ without_offer 28
    unfolding request_answer view_answer
    no_request h = called ∙ rw (le-ltb k (length j.requests) h)

    pub a_request : k < length j.requests
        → answer_call s reading k n ≡ answered reading (view_of reading j) (request_of_job j k) (offer_at (offers_of (view_of reading j) (request_of_job j k)) n)
    unfolding request_answer view_answer
    a_request there = called ∙ rw (lt-ltb k (length j.requests) there)

-- the same from what was loaded for the request of a number
module _ {reading : ℕ} (known_reading : is_reading reading ≡ true) {s : List ℕ} {w : WalkEnd} {rows : List Row} {families : List ℕ} {k : ℕ}
    (loads : LoadAnswer reading s w rows families k) where
  pub refusal_is : w.refusal ≡ (check_job s).refusal
  refusal_is = ap (λ (c : Checked). c.refusal) loads.checked

  module _ (z : w.refusal ≡ 0) where
    the : (q : ℕ) × (read_job s ≡ got (job_of s) q)
    the = accepted s (sym refusal_is ∙ z)

    pub unknown_request : w.request ≡ None → (n : ℕ) → without_offer 28 ≡ answer_call s reading k n
    unknown_request none n = sym (no_request s reading known_reading k n (job_of s) the.0 the.1 (rw none at (loads.request z)))

    module _ {p : ℕ} (found : w.request ≡ Some p) where
      there : AskedAt s (job_of s).requests k p
      there = rw found at (loads.request z)

      request : (d : Request) → RequestIn s p (get_or (job_of s).requests k d)
      request d =
          let lies = there.lies d in
          request_in s p (get_or (job_of s).requests k d) lies.end lies.read

      pub request_inside : p < length s
      request_inside = (request (request_of_job (job_of s) k)).inside

      pub request_answered : (n : ℕ) → answer_at reading s p n ≡ answer_call s reading k n
      unfolding answer_at request_of_job
      request_answered n =
          ap (λ (r : Request). answered reading (view_of reading (job_of s)) r (offer_at (offers_of (view_of reading (job_of s)) r) n)) (request _).is
          ∙ sym (a_request s reading known_reading k n (job_of s) the.0 the.1 there.known)

-- ---- the request that lies at a position

-- the offer of a number is one of the list
in_list : (list : List Offer) (n : ℕ) (o : Offer) → offer_at list n ≡ Some o → (n < length list) × (get_or list n (offer_of 0 0) ≡ o)
unfolding offer_at
in_list list n o e = go (ltb n (length list)) refl
  where
    go : (b : Bool) → ltb n (length list) ≡ b → (n < length list) × (get_or list n (offer_of 0 0) ≡ o)
    go true t = let l = ltb-true n (length list) t in (l, let p = pick_in Some (λ k. None) list n (offer_of 0 0) l in cc)
    go false t =
        let q = pick_past Some (λ k. None) list n (n - length list) (omega (arith, ltb-false n (length list) t)) in
        absurd (let z : ◌≡◌ {A = ℕ} 0 1 = cc in omega arith)

module _ (s : List ℕ) (rows : List Row) (p n : ℕ) {wanted : Attributes} (asks : wanted ≡ attributes_at s (p + 2)) {request : Matching.Request} (made : request ≡ request_of wanted true)
    {found : (Option Offer)} (is : found ≡ offer_at (listed_at s rows p request) n) where
  -- an offer that is found names a family of the job and a place in it, whatever the rows are of
  pub found_names : {o : Offer} → found ≡ Some o → Names s o
  unfolding listed_at
  found_names {o} some =
      let q = in_list (listed_at s rows p request) n o (sym is ∙ some) in
      let g = offers_named s rows request (request_at s p).most (request_at s p).families (request_at s p).fallbacks n q.0 in
      rw q.1 at g

  -- under the reading that the rows are of
  module _ {families : List ℕ} (loaded : TablesOf s rows families) (reading : ℕ) (shows : RowsShow reading s rows) where
    abbrev view : View
    view = view_of reading (job_of s)

    list_is : listed_at s rows p request ≡ offers_of view (request_at s p)
    unfolding listed_at offers_of request_at
    list_is =
        (λ i. offers (λ f. rows_show reading loaded shows request f i) (request_at s p).most (request_at s p).families (request_at s p).fallbacks)
        ∙ rw (made, asks)

    answer_is : answered reading view (request_at s p) found ≡ answer_at reading s p n
    unfolding answer_at
    answer_is = ap (answered reading view (request_at s p)) (is ∙ ap (λ (os : List Offer). offer_at os n) list_is)

    pub past_list : found ≡ None → without_offer 1 ≡ answer_at reading s p n
    unfolding answered
    past_list none = sym (ap (answered reading view (request_at s p)) none) ∙ answer_is

    module _ {o : Offer} (some : found ≡ Some o) where
      an_offer : {font : FontInfo} → font ≡ face_of_offer view o
          → with_synthesis o (synthesized reading font.attributes (varies_of font) wanted) font.charmap_index ≡ answer_at reading s p n
      unfolding answered synthesis_of_offer request_at
      an_offer face =
          (λ i. with_synthesis o (synthesized reading (face i).attributes (varies_of (face i)) (asks i)) (face i).charmap_index)
          ∙ sym (ap (answered reading view (request_at s p)) some)
          ∙ answer_is

      pub finds_offer : {f : SearchResult} → Locates s o wanted f → LeadsTo reading s (answer_at reading s p n) f
      finds_offer {f} lies =
          record {
            readable = λ z. lies.readable;
            leads = λ r. let g = r.some lies.found in g.is ∙ same g.font ∙ an_offer (lies.face reading g.font g.face);
          }
        where
          same : (font : FontInfo) → with_synthesis f.offer (synthesized reading font.attributes (varies_of font) f.wanted) font.charmap_index
              ≡ with_synthesis o (synthesized reading font.attributes (varies_of font) wanted) font.charmap_index
          same font = rw (lies.offer, lies.wanted_is)

-- the answer from the face that was read
pub face_answered : {reading : ℕ} {s : List ℕ} {f : SearchResult} {font : FontInfo} {a : CallAnswer} → f.result ≡ 0
    → OfferedFace reading s f.section f.entry f.number font
    → a ≡ with_synthesis f.offer (synthesized reading font.attributes (varies_of font) f.wanted) font.charmap_index → SearchAnswer reading s f a
face_answered {font = font} z face is = record { none = λ h. absurd (h z); some = λ _. record { font = font; face = face; is = is } }

-- ---- synthesis

pub never_refused : (reading : ℕ) (own : Attributes) (v : Varies) (a : Attributes) → (synthesized reading own v a).refusal ≡ 0
unfolding synthesized
never_refused reading own v a = three _ _ _ _ _

pub no_fourth : (reading : ℕ) (view : View) (r : Request) (o : Offer) → (synthesis_of_offer view reading r o).refusal ≡ 0
unfolding synthesis_of_offer
no_fourth reading seen r o = never_refused _ _ _ _

-- ---- what the record of an answer is written from: the charmap index fits 32 bits, and no setting is a NaN

-- what holds of every entry of a list, and of what stands past it, holds at each place
pub every_at : {A : Type 0} (P : A → Type 0) (d : A) → P d → (xs : List A) → Every P xs → (k : ℕ) → P (get_or xs k d)
unfolding Every
every_at P d h [] w k = h
every_at P d h (x ∷ xs) w zero = w.0
every_at P d h (x ∷ xs) w (suc k) = every_at P d h xs w.1 k

abbrev Small : CharmapIndex → Type 0
Small index = index.subtable_offset < 2 ^ 32

pub kept_index : (os : List Override) (i : ℕ) (f : FontInfo) → (after_overrides os i f).charmap_index ≡ f.charmap_index
unfolding after_overrides overridden_by with_override
kept_index [] i f = refl
kept_index (o ∷ os) i f = kept_index os i (cond (eqb o.face i) (overridden_by o f) f) ∙ one (eqb o.face i)
  where
    one : (b : Bool) → (cond b (overridden_by o f) f).charmap_index ≡ f.charmap_index
    one true = refl
    one false = refl

font_lengths : (fs : List Face) → Every FaceFits fs → Every (λ (f : Face). Fits32 (length f.font.file)) fs
unfolding Every
font_lengths [] w = w
font_lengths (f ∷ fs) w = (w.0.long, font_lengths fs w.1)

-- the attributes of a request within the limits are accepted
style_accepted : (t : FontStyle) → StyleFits t → accepted_style t ≡ true
unfolding AngleFits angle_of accepted_style accepted_angle
style_accepted Normal w = refl
style_accepted Italic w = refl
style_accepted (Oblique Unstated) w = refl
style_accepted (Oblique (Degrees x)) w = w.accepted

request_accepted : (rs : List Request) → Every RequestFits rs → (d : Request) (k : ℕ) → k < length rs → accepted_attributes (get_or rs k d).attributes ≡ true
unfolding Every accepted_attributes
request_accepted [] w d k l = absurd (omega arith)
request_accepted (r ∷ rs) w d zero l =
    rw (w.0.ratio.accepted, style_accepted r.attributes.style w.0.style, w.0.weight.accepted) refl
request_accepted (r ∷ rs) w d (suc k) l = request_accepted rs w.1 d k (omega arith)

abbrev pub Writable : CallAnswer → Type 0
Writable a = Small a.charmap_index × Numbers a.synthesis

none_writable : (n : ℕ) → Writable (without_offer n)
unfolding without_offer unvaried
none_writable n = (omega arith, λ i l. absurd (omega arith))

made_writable : (o : Offer) (made : SynthesisAnswer) (index : CharmapIndex) → Small index → Numbers made → Writable (with_synthesis o made index)
unfolding with_synthesis
made_writable o made index h numbers = go (eqb made.refusal 29)
  where
    go : (b : Bool) → Writable (cond b (without_offer 29) (record { result = 0; offer = o; synthesis = made; charmap_index = index }))
    go true = none_writable 29
    go false = (h, numbers)

answered_writable : (reading : ℕ) (view : View) (r : Request) → ((i : ℕ) → Small (view.font i).charmap_index) → accepted_attributes r.attributes ≡ true
    → (a : (Option Offer)) → Writable (answered reading view r a)
unfolding answered face_of_offer synthesis_of_offer
answered_writable reading view r small fine (Some o) =
    let face = face_of_offer view o in
    made_writable o (synthesis_of_offer view reading r o) face.charmap_index (small (get_or (members_of view o.family) o.place 0))
    (setting_numbers reading face.attributes (varies_of face) r.attributes fine)
answered_writable reading view r small fine None = none_writable 1

module _ (s : List ℕ) (bytes : Bytes s) (reading : ℕ) where
  font_small : (j : Job) → JobFits j → (i : ℕ) → Small ((view_of reading j).font i).charmap_index
  unfolding view_of view_by entry_of stated_by
  font_small j fits i =
      omega (
        arith,
        ap (λ (x : CharmapIndex). x.subtable_offset) (kept_index j.overrides i (stated_by reading (get_or j.faces i no_entry).font)),
        offset_inside reading (get_or j.faces i no_entry).font.file (get_or j.faces i no_entry).font.number,
        every_at (λ (f : Face). Fits32 (length f.font.file)) no_entry (omega arith) j.faces (font_lengths j.faces fits.faces.1) i,
      )

  request_writable : (j : Job) → JobFits j → (k n : ℕ) → Writable (request_answer reading j k n)
  unfolding request_answer view_answer request_of_job
  request_writable j fits k n = go (ltb k (length j.requests)) refl
    where
      r : Request
      r = request_of_job j k

      go : (b : Bool) → ltb k (length j.requests) ≡ b
          → Writable (cond b (answered reading (view_of reading j) r (offer_at (offers_of (view_of reading j) r) n)) (without_offer 28))
      go true t =
          answered_writable reading (view_of reading j) r (font_small j fits)
          (request_accepted j.requests fits.requests.1 _ k (ltb-true k (length j.requests) t))
          (offer_at (offers_of (view_of reading j) r) n)
      go false t = none_writable 28

  pub answer_writable : (k n : ℕ) {a : CallAnswer} → a ≡ answer_call s reading k n → Writable a
  unfolding answer_call job_answer
  answer_writable k n is = rw is (either (refuses_reading s reading))
    where
      go : (g : Got Job) → read_job s ≡ g → Writable (job_answer reading g k n)
      go (refused w p) e = none_writable (number w)
      go (got j p) e = request_writable j (accepted_is_a_layout s bytes j p e).fits k n

      either : (b : Bool) → Writable (cond b (without_offer 25) (job_answer reading (read_job s) k n))
      either true = none_writable 25
      either false = go (read_job s) refl

-- ---- the call

module _ (s : List ℕ) (reading k n : ℕ) (out : List ℕ) where
  pub wrong_length : (length out ≡ record_size → ⊥) → Calls (offer_call s reading k n out) 16 out
  unfolding offer_call unwritten
  wrong_length h = rw (ne_eqb (length out) record_size h) (record { result_is = refl; output_is = refl })

  module _ (long : length out ≡ record_size) {a : CallAnswer} (is : a ≡ answer_call s reading k n) where
    pub call_written : offer_call s reading k n out ≡ written a out
    unfolding offer_call
    call_written = rw (eq-eqb (length out) record_size long) (ap (λ (x : CallAnswer). written x out) (sym is))

    pub record_written : a.result ≡ 0 → {after : List ℕ} → after ≡ record_bytes a.offer a.synthesis a.charmap_index
        → Calls (offer_call s reading k n out) a.result after
    unfolding written
    record_written z bytes =
        let w : offer_call s reading k n out ≡ record { result = 0; output = record_bytes a.offer a.synthesis a.charmap_index } =
        call_written ∙ rw (eq-eqb a.result 0 z) in
        record { result_is = z ∙ sym (ap (λ (x : Called). x.result) w); output_is = bytes ∙ sym (ap (λ (x : Called). x.output) w) }

    pub nothing_written : (a.result ≡ 0 → ⊥) → Calls (offer_call s reading k n out) a.result out
    unfolding written unwritten
    nothing_written h =
        let w : offer_call s reading k n out ≡ unwritten a.result out = call_written ∙ rw (ne_eqb a.result 0 h) in
        record { result_is = sym (ap (λ (x : Called). x.result) w); output_is = sym (ap (λ (x : Called). x.output) w) }

  -- "A refusal returns its number and writes nothing": all but 0 leave the output as it was
  pub kept : ((offer_call s reading k n out).result ≡ 0 → ⊥) → (offer_call s reading k n out).output ≡ out
  unfolding offer_call written unwritten
  kept = go (eqb (length out) record_size) (answer_call s reading k n)
    where
      last : (b : Bool) (bytes : List ℕ) (m : ℕ)
          → ((cond b (record { result = 0; output = bytes }) (unwritten m out)).result ≡ 0 → ⊥) → (cond b (record { result = 0; output = bytes }) (unwritten m out)).output ≡ out
      last true bytes m h = absurd (h refl)
      last false bytes m h = refl

      go : (b : Bool) (a : CallAnswer) → ((cond b (written a out) (unwritten 16 out)).result ≡ 0 → ⊥) → (cond b (written a out) (unwritten 16 out)).output ≡ out
      go false a h = refl
      go true a h = last (eqb a.result 0) _ _ h
