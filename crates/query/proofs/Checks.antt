-- How a job ends, and the check call's answer.
use Prim.Native.Nat.{ℕ, ◌≤◌, ◌<◌}
use mathlib.Core.Path.{◌≡◌, refl, sym, ap, ◌∙◌, subst}
use mathlib.Core.Bool.{Bool, true, false, cond}
use mathlib.Core.List.{List}
use native.Mathlib.Omega.{arith}
use lib.ListN.{length}
use lib.Dec.{leb, ltb}
use borrow.Author.Tests.{lt-ltb, le-ltb, le-leb, lt-leb, leb-true, ltb-false}
use Rattle.query.specs.Reader.{At}
use Rattle.query.specs.Sizes.{most_bytes, most_faces, most_overrides, most_families, most_requests}
use Rattle.query.specs.Reader.{overlong, bytes_left, number, Got, refused, got, ended}
use Rattle.query.specs.Fields.{counted}
use Rattle.query.specs.Entries.{read_face, read_override, read_family, read_request}
use Rattle.query.specs.Job.{Job, Checked, at_end, read_sections, read_job, answer, check_job, job_in, job_of}
use Rattle.query.proofs.Ends.{number_nonzero, then_got}

pub bytes_left_lem : {A : Type 0} (a : A) (s : List ℕ) (p : ℕ) → p < length s → record { refusal = 27; at = p } ≡ ended (at_end a s p)
unfolding at_end ended number
bytes_left_lem a s p h = simp (lt-ltb p (length s) h)

pub no_bytes_left : {A : Type 0} (a : A) (s : List ℕ) (p : ℕ) → length s ≤ p → record { refusal = 0; at = p } ≡ ended (at_end a s p)
unfolding at_end ended
no_bytes_left a s p h = simp (le-ltb p (length s) h)

-- ---- the check call's answer

pub over : (s : List ℕ) → most_bytes < length s → record { refusal = 17; position = 0 } ≡ check_job s
unfolding check_job read_job answer number
over s h = simp (lt-leb (length s) most_bytes h)

-- of a job that is not too long it is what reading its sections gives
pub short : (s : List ℕ) → length s ≤ most_bytes → answer (read_sections s 0) ≡ check_job s
unfolding check_job read_job
short s h = simp (le-leb (length s) most_bytes h)

pub answers_none : (g : Got Job) {a : At} → a ≡ ended g → a.refusal ≡ 0 → record { refusal = 0; position = 0 } ≡ answer g
unfolding answer ended
answers_none g {a} = go g
  where
    go : (g : Got Job) → a ≡ ended g → a.refusal ≡ 0 → record { refusal = 0; position = 0 } ≡ answer g
    go (refused w p) e z = absurd (number_nonzero w (sym (ap (λ (y : At). y.refusal) e) ∙ z))
    go (got j p) e z = refl

pub answers_refusal : (g : Got Job) {a : At} → a ≡ ended g → (a.refusal ≡ 0 → ⊥) → record { refusal = a.refusal; position = a.at } ≡ answer g
unfolding answer ended
answers_refusal g {a} = go g
  where
    go : (g : Got Job) → a ≡ ended g → (a.refusal ≡ 0 → ⊥) → record { refusal = a.refusal; position = a.at } ≡ answer g
    go (refused w p) e z = ap (λ (y : At). record { refusal = y.refusal; position = y.at }) e
    go (got j p) e z = absurd (z (ap (λ (y : At). y.refusal) e))

-- and 0 where the job was read
pub answered : {g : Got Job} {c : Checked} {j : Job} {q : ℕ} → c ≡ answer g → g ≡ got j q → c.refusal ≡ 0
unfolding answer
answered e is = ap (λ (x : Checked). x.refusal) (e ∙ ap answer is)

-- ---- an accepted job

-- the check call's 0
pub accepted : (s : List ℕ) → (check_job s).refusal ≡ 0 → (q : ℕ) × (read_job s ≡ got (job_of s) q)
unfolding check_job answer job_of job_in
accepted s = go (read_job s)
  where
    go : (g : Got Job) → (answer g).refusal ≡ 0 → (q : ℕ) × (g ≡ got (job_in g) q)
    go (refused w p) h = absurd (number_nonzero w h)
    go (got j q) h = (q, refl)

-- a job that is read is not too long, and its sections are read
pub job_read : (s : List ℕ) (j : Job) (q : ℕ) → read_job s ≡ got j q → (length s ≤ most_bytes) × (read_sections s 0 ≡ got j q)
unfolding read_job
job_read s j q = go (leb (length s) most_bytes) refl
  where
    go : (b : Bool) → leb (length s) most_bytes ≡ b → cond b (read_sections s 0) (refused overlong 0) ≡ got j q
        → (length s ≤ most_bytes) × (read_sections s 0 ≡ got j q)
    go true t e = (leb-true (length s) most_bytes t, e)
    go false t e = absurd (let z : ◌≡◌ {A = ℕ} 0 1 = cc in omega arith)

pub short_job : (s : List ℕ) → (check_job s).refusal ≡ 0 → length s ≤ most_bytes
short_job s ok = let a = accepted s ok in (job_read s (job_of s) a.0 a.1).0

-- no byte is left
record Over (j k : Job) (s : List ℕ) (p q : ℕ) : Type 0 where
  is : j ≡ k
  ends : p ≡ q
  last : length s ≤ p

at_end_got : (j k : Job) (s : List ℕ) (p q : ℕ) → at_end j s p ≡ got k q → Over j k s p q
unfolding at_end
at_end_got j k s p q = go (ltb p (length s)) refl
  where
    go : (b : Bool) → ltb p (length s) ≡ b → cond b (refused bytes_left p) (got j p) ≡ got k q → Over j k s p q
    go true t e = absurd (let z : ◌≡◌ {A = ℕ} 0 1 = cc in omega arith)
    go false t e = record { is = cc; ends = cc; last = ltb-false p (length s) t }

-- the four sections, one after another to the end
pub record Sections (s : List ℕ) (q : ℕ) (j : Job) : Type 0 where
  pub second : ℕ
  pub third : ℕ
  pub fourth : ℕ
  pub faces : counted most_faces read_face s 0 ≡ got j.faces second
  pub overrides : counted most_overrides (read_override (length j.faces)) s second ≡ got j.overrides third
  pub families : counted most_families (read_family (length j.faces)) s third ≡ got j.families fourth
  pub requests : counted most_requests read_request s fourth ≡ got j.requests q
  pub last : length s ≤ q

pub sections_read : (s : List ℕ) (j : Job) (q : ℕ) → read_sections s 0 ≡ got j q → Sections s q j
unfolding read_sections
sections_read s j q h =
    let t = then_got (counted most_faces read_face) _ s 0 j q h in
    let u = then_got (counted most_overrides (read_override (length t.0))) _ s t.1 j q t.3 in
    let v = then_got (counted most_families (read_family (length t.0))) _ s u.1 j q u.3 in
    let x = then_got (counted most_requests read_request) _ s v.1 j q v.3 in
    let d = at_end_got (record { faces = t.0; overrides = u.0; families = v.0; requests = x.0 }) j s x.1 q x.3 in
    subst (Sections s q) d.is
    (record {
      second = t.1;
      third = u.1;
      fourth = v.1;
      faces = t.2;
      overrides = u.2;
      families = v.2;
      requests = x.2 ∙ ap (got x.0) d.ends;
      last = subst (λ n. length s ≤ n) d.ends d.last;
    })
