-- Demand 3, over a job: each number of a request gets the offer of that number, and a fresh cursor that is stepped n times gives the offers of
-- section 6's list in order, and then "past the list" each time.
use Rattle.std.specs.Prelude.{None, Some}
use Prim.Native.Nat.{ℕ, zero, suc, ◌+◌, ◌-◌, ◌^◌, ◌≤◌, ◌<◌}
use mathlib.Core.Path.{◌≡◌, refl, sym, ◌∙◌, ap}
use mathlib.Core.Bool.{Bool, true, false}
use mathlib.Core.List.{List, [], ◌∷◌, ◌++◌, map}
use native.Mathlib.Omega.{arith}
use native.Mathlib.Numerals.{add-one}
use lib.Dec.{ltb}
use lib.ListN.{length, get_or, take, drop, replicate, drop_of_length-le}
use lib.Seq.{drop-cons}
use borrow.Author.Tests.{lt-ltb, ltb-true, ltb-false}
use Rattle.font.specs.Attributes.{default_attributes}
use Rattle.font.specs.Slant.{is_reading}
use Rattle.matching.specs.Matching.{request_of}
use Rattle.query.specs.declared.answer.Offer.{Offer}
use Rattle.query.specs.Call.{CallAnswer}
use Rattle.query.specs.declared.cursor.Cursor.{Cursor}
use Rattle.query.specs.Sizes.{record_size}
use Rattle.query.specs.Reader.{got}
use Rattle.query.specs.Entries.{Request}
use Rattle.query.specs.Layout.{Bytes, Every, Fits16, RequestFits}
use Rattle.query.specs.Job.{Job, read_job}
use Rattle.query.specs.View.{view_of}
use Rattle.query.specs.Offers.{pick, offer_at, offer_of, number_offers, offers_of}
use Rattle.query.specs.Call.{without_offer, with_synthesis, answered, request_of_job, answer_call, written, unwritten, offer_call}
use Rattle.query.specs.Cursor.{fresh, after, is_offer, stepped, run}
use Rattle.query.specs.Demands.{listed, offered, offer_bytes}
use Rattle.query.proofs.AcceptedJobs.{accepted_is_a_layout}
use Rattle.query.proofs.Picked.{pick_then, pick_in, pick_past}
use Rattle.query.proofs.SoundOffers.{offers_length}
use Rattle.query.proofs.AnswerCases.{a_request, no_fourth, every_at, call_written}

-- ---- the steps of a cursor

-- The answers are those over inputs that are not refused: the offer of the number, as `offer` says it, or `past`.
module _ (s : List ℕ) (reading : ℕ) {O : Type 0} (offer : O → CallAnswer) (past : CallAnswer) (none : O) (list : List O) (request : ℕ)
    (is : (k : ℕ) → answer_call s reading request k ≡ pick offer (λ j. past) list k)
    (offer-found : (o : O) → is_offer (offer o) ≡ true) (past-found : is_offer past ≡ false)
    (short : length list < 2 ^ 32) where
  -- the cursor whose next number is k
  abbrev at : ℕ → Cursor
  at k = record { request = request; next = k }

  in_list : (k : ℕ) → k < length list → answer_call s reading request k ≡ offer (get_or list k none)
  in_list k l = is k ∙ pick_in offer (λ j. past) list k none l

  past_list : (k : ℕ) → length list ≤ k → answer_call s reading request k ≡ past
  past_list k l = is k ∙ pick_past offer (λ j. past) list k (k - length list) (omega arith)

  onward : (k : ℕ) → k < length list → after (at k) true ≡ at (k + 1)
  unfolding after
  onward k l = rw (lt-ltb k (2 ^ 32 - 1) (omega arith)) refl

  stays : (k : ℕ) → after (at k) false ≡ at k
  unfolding after
  stays k = refl

  step_on : (n k : ℕ) → k < length list → run s reading (suc n) (at k) ≡ offer (get_or list k none) ∷ run s reading n (at (k + 1))
  unfolding run stepped
  step_on n k l =
      λ i. in_list k l i ∷ run s reading n ((ap (λ a. after (at k) (is_offer a)) (in_list k l) ∙ ap (after (at k)) (offer-found (get_or list k none)) ∙ onward k l) i)

  step_past : (n k : ℕ) → length list ≤ k → run s reading (suc n) (at k) ≡ past ∷ run s reading n (at k)
  unfolding run stepped
  step_past n k l =
      λ i. past_list k l i ∷ run s reading n ((ap (λ a. after (at k) (is_offer a)) (past_list k l) ∙ ap (after (at k)) past-found ∙ stays k) i)

  -- from the number k on: what is left of the list, and then "past the list"
  from : (n k : ℕ) → run s reading n (at k) ≡ map offer (take n (drop k list)) ++ replicate (n - (length list - k)) past
  unfolding run
  from zero k = let e : 0 - (length list - k) ≡ 0 = omega arith in sym (ap (λ m. replicate m past) e)
  from (suc n) k = go (ltb k (length list)) refl (λ j. from n j)
    where
      go : (b : Bool) → ltb k (length list) ≡ b
          → ((j : ℕ) → run s reading n (at j) ≡ map offer (take n (drop j list)) ++ replicate (n - (length list - j)) past)
          → run s reading (suc n) (at k) ≡ map offer (take (suc n) (drop k list)) ++ replicate (suc n - (length list - k)) past
      go true t rest =
          let l : k < length list = ltb-true k (length list) t in
          let e : n - (length list - (k + 1)) ≡ suc n - (length list - k) = omega arith in
          let d : drop k list ≡ get_or list k none ∷ drop (k + 1) list = rw (add-one, drop-cons list k none) in
          step_on n k l
          ∙ ap (λ xs. offer (get_or list k none) ∷ xs) (rest (k + 1) ∙ ap (λ m. map offer (take n (drop (k + 1) list)) ++ replicate m past) e)
          ∙ ap (λ xs. map offer (take (suc n) xs) ++ replicate (suc n - (length list - k)) past) (sym d)
      go false t rest =
          let l : length list ≤ k = ltb-false k (length list) t in
          let d : drop k list ≡ [] = drop_of_length-le list l in
          let e : n - (length list - k) ≡ n = omega arith in
          let f : suc n - (length list - k) ≡ suc n = omega arith in
          let g : run s reading n (at k) ≡ replicate n past = rest k ∙ rw (d, e) (nothing n) in
          step_past n k l ∙ ap (λ xs. past ∷ xs) g ∙ rw (d, f) refl
        where
          nothing : (m : ℕ) → map offer (take m []) ++ replicate m past ≡ replicate m past
          nothing zero = refl
          nothing (suc m) = refl

  -- a fresh cursor, stepped n times
  the_run : (n : ℕ) → run s reading n (fresh request) ≡ map offer (take n list) ++ replicate (n - length list) past
  unfolding fresh
  the_run n = from n 0 ∙ (let e : n - (length list - 0) ≡ n - length list = omega arith in ap (λ m. map offer (take n list) ++ replicate m past) e)

-- ---- over a job

-- the most offers of a request is a 16-bit number
most_offers : (rs : List Request) → Every RequestFits rs → Every (λ (r : Request). Fits16 r.most) rs
unfolding Every
most_offers [] w = w
most_offers (r ∷ rs) w = (w.0.most, most_offers rs w.1)

module _ (s : List ℕ) (reading : ℕ) (known : is_reading reading ≡ true) (k : ℕ) (j : Job) (e : ℕ) (read : read_job s ≡ got j e) (there : k < length j.requests) where
  with_its_synthesis : (o : Offer) → answered reading (view_of reading j) (request_of_job j k) (Some o) ≡ offered reading j k o
  unfolding answered with_synthesis
  with_its_synthesis o = rw (no_fourth reading (view_of reading j) (request_of_job j k) o) refl

  -- each number gets the offer of that number, or "past the list"
  pub each_number : (n : ℕ) → answer_call s reading k n ≡ pick (offered reading j k) (λ i. without_offer 1) (listed reading j k) n
  unfolding offer_at answered
  each_number n =
      a_request s reading known k n j e read there
      ∙ pick_then (answered reading (view_of reading j) (request_of_job j k)) Some (λ i. None) (listed reading j k) n
      ∙ (λ i. pick (λ o. with_its_synthesis o i) (λ m. without_offer 1) (listed reading j k) n)

  -- and so does the offer call, in 40 bytes
  pub each_call : (n : ℕ) (out : List ℕ) → length out ≡ record_size → offer_call s reading k n out ≡ pick (offer_bytes reading j k) (λ i. unwritten 1 out) (listed reading j k) n
  unfolding written without_offer
  each_call n out long =
      call_written s reading k n out long (sym (each_number n))
      ∙ pick_then (λ (a : CallAnswer). written a out) (offered reading j k) (λ i. without_offer 1) (listed reading j k) n

  short : Bytes s → length (listed reading j k) < 2 ^ 32
  unfolding offers_of request_of_job
  short b =
      let none : Request = record { most = 0; attributes = default_attributes; families = []; fallbacks = [] } in
      let r = get_or j.requests k none in
      let fit = most_offers j.requests (accepted_is_a_layout s b j e read).fits.requests.1 in
      omega (
        arith,
        offers_length (number_offers (view_of reading j) (request_of r.attributes true)) r.most r.families r.fallbacks,
        every_at (λ (r : Request). Fits16 r.most) none (omega arith) j.requests fit k,
      )

  -- the run is one claim: n steps of a fresh cursor, each given the cursor that the last returned
  pub cursor_run : Bytes s → (n : ℕ) → run s reading n (fresh k) ≡ map (offered reading j k) (take n (listed reading j k)) ++ replicate (n - length (listed reading j k)) (without_offer 1)
  unfolding is_offer without_offer
  cursor_run b n = the_run s reading (offered reading j k) (without_offer 1) (offer_of 0 0) (listed reading j k) k each_number (λ o. refl) refl (short b) n
