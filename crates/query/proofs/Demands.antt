-- Demands 1 and 3 hold over the bytes of every job.
use Prim.Native.Nat.{ℕ, zero, suc, ◌≤◌, ◌<◌}
use mathlib.Core.Path.{◌≡◌, refl, sym, ap, ◌∙◌}
use mathlib.Core.Bool.{Bool, true, false, cond}
use mathlib.Core.List.{List, [], ◌∷◌, ◌++◌, map}
use native.Mathlib.Omega.{arith}
use lib.ListN.{length, get_or, length-map}
use lib.Dec.{leb}
use borrow.Author.Tests.{ne_eqb, lt-ltb, le-leb, lt-leb}
use Rattle.font.specs.declared.attributes.Attributes.{Attributes}
use Rattle.font.specs.Attributes.{default_attributes}
use Rattle.font.specs.Slant.{is_reading}
use Rattle.matching.specs.Order.{choice}
use Rattle.matching.specs.Matching.{family_of, request_of}
use Rattle.matching.proofs.Demand.{demand}
use Rattle.matching.proofs.Matched.{bounded, weights_short}
use Rattle.query.specs.Job.{Checked}
use Rattle.query.specs.Sizes.{record_size, most_bytes, most_places}
use Rattle.query.specs.Reader.{Refusal, number, Got, refused, got}
use Rattle.query.specs.Entries.{Family}
use Rattle.query.specs.Job.{Job, read_job, answer, check_job}
use Rattle.query.specs.Layout.{Bytes, layout, Every, FamilyFits, JobFits}
use Rattle.query.specs.View.{families_of, view_by, view_of}
use Rattle.query.specs.Offers.{members_of, faces_of}
use Rattle.query.specs.Call.{without_offer, request_of_job, answer_call, written, unwritten, offer_call}
use Rattle.query.specs.Demands.{Kept, Other, Chooses, family_at, Demands}
use Rattle.query.proofs.AcceptedJobs.{number_row, accepted_is_a_layout, layout_is_accepted}
use Rattle.query.proofs.FirstMet.{refusal_stays, until_met, first_met}
use Rattle.query.proofs.AnswerCases.{no_reading, job_refused, no_request, call_written}
use Rattle.query.proofs.CursorSteps.{each_number, each_call, cursor_run}

-- a refusal leaves the output as it is
left : (n : ℕ) (out : List ℕ) → (n ≡ 0 → ⊥) → written (without_offer n) out ≡ unwritten n out
unfolding written without_offer
left n out h = rw (ne_eqb n 0 h)

-- ---- a job that keeps the layout and the limits

module _ (s : List ℕ) (job : Job) (is : s ≡ layout job) (fits : JobFits job) where
  read : read_job s ≡ got job (length s)
  read = ap read_job is ∙ layout_is_accepted job fits ∙ ap (λ (z : List ℕ). got job (length z)) (sym is)

  checked : check_job s ≡ record { refusal = 0; position = 0 }
  unfolding check_job answer
  checked = ap answer read

  outside : (reading k n : ℕ) → is_reading reading ≡ true → length job.requests ≤ k → (out : List ℕ) → length out ≡ record_size
      → offer_call s reading k n out ≡ unwritten 28 out
  outside reading k n known h out long =
      call_written s reading k n out long (sym (no_request s reading known k n job (length s) read h)) ∙ left 28 out (λ z. omega (arith, z))

  keeps : Kept s job
  keeps =
      record {
        end = read;
        check = checked;
        offers = λ reading k n known there out long. each_call s reading known k job (length s) read there n out long;
        outside = outside;
      }

-- ---- every other

module _ (s : List ℕ) where
  untouched : (w : Refusal) (p : ℕ) → check_job s ≡ record { refusal = number w; position = p } → (reading k n : ℕ) (out : List ℕ) → is_reading reading ≡ true
      → length out ≡ record_size → offer_call s reading k n out ≡ unwritten (number w) out
  untouched w p e reading k n out known long =
      let h : number w ≡ 0 → ⊥ = λ z. omega (arith, (number_row w).0, z) in
      call_written s reading k n out long (job_refused s reading known k n (number w) (sym (ap (λ (c : Checked). c.refusal) e)) h) ∙ left (number w) out h

  stays : (w : Refusal) (p : ℕ) → check_job s ≡ record { refusal = number w; position = p } → (u : List ℕ) → length (s ++ u) ≤ most_bytes → (number w ≡ 18 → ⊥)
      → check_job (s ++ u) ≡ check_job s
  stays w p e u l h =
      let same : (check_job s).refusal ≡ number w = ap (λ (c : Checked). c.refusal) e in
      refusal_stays s u l (λ z. omega (arith, (number_row w).0, same, z)) (λ z. h (sym same ∙ z))

  other : (w : Refusal) (p : ℕ) → read_job s ≡ refused w p → Other s
  unfolding check_job answer
  other w p e =
      record {
        why = w;
        position = p;
        read = e;
        first = first_met s w p e;
        until = λ l. until_met s w p l (ap answer e);
        stays = stays w p (ap answer e);
        check = ap answer e;
        untouched = untouched w p (ap answer e);
      }

  others : Bytes s → (((job : Job) × (s ≡ layout job) × JobFits job) → ⊥) → Other s
  others b h = go (read_job s) refl
    where
      go : (g : Got Job) → read_job s ≡ g → Other s
      go (refused w p) e = other w p e
      go (got job q) e = let l = accepted_is_a_layout s b job q e in absurd (h (job, l.bytes, l.fits))

-- ---- the choice in a family of a job

-- at most 64 places
few_places : (n : ℕ) (fs : List Family) → Every (FamilyFits n) fs → (f : ℕ) → length (get_or (map (λ (m : Family). m.members) fs) f []) ≤ most_places
unfolding Every
few_places n [] w f = omega arith
few_places n (m ∷ ms) w zero = w.0.few
few_places n (m ∷ ms) w (suc f) = few_places n ms w.1 f

module _ (reading : ℕ) (job : Job) (fits : JobFits job) (f : ℕ) where
  few_faces_lem : length (faces_of (view_of reading job) f) ≤ 64
  unfolding faces_of members_of families_of view_by view_of
  few_faces_lem =
      omega (arith, length-map (members_of (view_of reading job) f) (view_of reading job).font, few_places (length job.faces) job.families fits.families.1 f)

  chooses : (a : Attributes) (on : Bool) → Chooses (family_at reading job f) (request_of a on)
  unfolding choice family_of
  chooses a on =
      let faces = faces_of (view_of reading job) f in
      record {
        many = λ two. demand (family_at reading job f) (request_of a on) (bounded faces (length faces) few_faces_lem) two (weights_short faces (length faces));
        few = λ h. rw (lt-ltb (length faces) 2 h) refl;
      }

-- ---- over any bytes

module _ (s : List ℕ) (reading k n : ℕ) (out : List ℕ) (long : length out ≡ record_size) where
  refused_first : (number : ℕ) → (number ≡ 0 → ⊥) → without_offer number ≡ answer_call s reading k n → offer_call s reading k n out ≡ unwritten number out
  refused_first number h e = call_written s reading k n out long e ∙ left number out h

  -- too long, under any reading or none
  too_long : most_bytes < length s → offer_call s reading k n out ≡ unwritten 17 out
  unfolding check_job answer read_job number
  too_long l = go (is_reading reading) refl
    where
      over : leb (length s) most_bytes ≡ false
      over = lt-leb (length s) most_bytes l

      refused_17 : 17 ≡ (check_job s).refusal
      refused_17 = rw over

      go : (b : Bool) → is_reading reading ≡ b → offer_call s reading k n out ≡ unwritten 17 out
      go true e = refused_first 17 (λ z. omega (arith, z)) (job_refused s reading e k n 17 refused_17 (λ z. omega (arith, z)))
      go false e = refused_first 17 (λ z. omega (arith, z)) (ap (λ (b : Bool). without_offer (cond b 25 17)) (sym over) ∙ no_reading s reading e k n)

  -- no reading
  unknown : length s ≤ most_bytes → is_reading reading ≡ false → offer_call s reading k n out ≡ unwritten 25 out
  unknown l e =
      refused_first 25 (λ z. omega (arith, z))
      (ap (λ (b : Bool). without_offer (cond b 25 17)) (sym (le-leb (length s) most_bytes l)) ∙ no_reading s reading e k n)

-- ---- the demands

pub demands : (s : List ℕ) → Bytes s → Demands s
unfolding offer_call unwritten
demands s b =
    record {
      kept = keeps s;
      other = others s b;
      buffer = λ reading k n out h. rw (ne_eqb (length out) record_size h) refl;
      long = λ l reading k n out size. too_long s reading k n out size l;
      unknown = λ l reading k n out e size. unknown s reading k n out size l e;
      offered =
          λ job is fits reading k known there.
          record {
            chosen = λ f l. chooses reading job fits f (request_of_job job k).attributes true;
            default = λ f l. chooses reading job fits f default_attributes false;
            each = each_number s reading known k job (length s) (read s job is fits) there;
            steps = cursor_run s reading known k job (length s) (read s job is fits) there b;
          };
    }
