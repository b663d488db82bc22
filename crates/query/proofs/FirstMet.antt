-- "First met, reading left to right": a refusal stands in the job, and bytes after a job change neither what was read nor any refusal but 18; after an accepted
-- job they are 27, at the first of them. Cut off before the field that is refused, a job lacks just that field.
use Prim.Native.Nat.{ℕ, ◌≤◌, ◌<◌}
use mathlib.Core.Path.{◌≡◌, refl, sym, ap, ◌∙◌, subst}
use mathlib.Core.Bool.{Bool, true, false, cond}
use mathlib.Core.List.{List, [], ◌∷◌, ◌++◌, append-nil}
use mathlib.Core.Logic.{◌⊎◌, inl, inr, ⊎_elim}
use native.Mathlib.Omega.{arith}
use lib.ListN.{length, take, drop, length-append, length-take, take-append-drop}
use lib.Dec.{leb, ltb, eqb}
use borrow.Author.Tests.{le-leb, le-ltb, lt-ltb, leb-true, ltb-true, ltb-false, eqb-true, eqb-false}
use Rattle.query.specs.Reader.{At}
use Rattle.query.specs.Sizes.{most_bytes}
use Rattle.query.specs.Reader.{Refusal, overlong, past_end, bytes_left, number, Got, refused, got, Reader, onward, ◌>>=◌, field, tested, ended}
use Rattle.query.specs.Fields.{half, count, counted}
use Rattle.query.specs.Job.{Job, at_end, read_sections, read_job, answer, check_job, job_of}
use Rattle.query.specs.Job.{Checked}
use Rattle.query.specs.Demands.{cut_before, Until, lacking, met, whole}
use Rattle.query.proofs.Readers.{place, Goes, Kept, Back, Lacked, Stays, stays_then, Reads, never}
use Rattle.query.proofs.EntryReaders.{reads_counted, reads_face, reads_override, reads_family, reads_request}
use Rattle.query.proofs.AcceptedJobs.{number_row}
use Rattle.query.proofs.Checks.{accepted, job_read, sections_read}

-- ---- a reader that ends a job

-- a longer job has the refusal of a shorter one, unless that is 18; after what was accepted there may be bytes left
KeptRefusal : {A : Type 0} → Got A → Got A → Type 0
KeptRefusal (got a q) y = (y ≡ got a q) ⊎ (y ≡ refused bytes_left q)
KeptRefusal (refused w q) y = (w ≡ past_end) ⊎ (y ≡ refused w q)

-- how a job that is cut off at n ends, if the whole one is refused there: accepted before bytes left, and else 18
CutAt : Refusal → ℕ → At
CutAt w n = cond (eqb (number w) 27) (record { refusal = 0; at = n }) (record { refusal = 18; at = n })

Met : {A : Type 0} → ℕ → ℕ → Got A → Got A → Type 0
Met p n x (got a q) = Unit {0}
Met p n x (refused w q) = (p ≤ q) × (q ≡ n → ended x ≡ CutAt w n)

record Ends {A : Type 0} (r : Reader A) : Type 0 where
  refuses : (s u : List ℕ) (p : ℕ) → KeptRefusal (r s p) (r (s ++ u) p)
  meets : (s u : List ℕ) (p : ℕ) → Met p (length s) (r s p) (r (s ++ u) p)
  within : Stays never r

ends_then : {A B : Type 0} {r : Reader A} {k : A → Reader B} → Reads never r → ((a : A) → Ends (k a)) → Ends (r >>= k)
unfolding ◌>>=◌ onward Goes Kept Back KeptRefusal Lacked Met CutAt ended number
ends_then {A} {B} {r} {k} f g =
    record {
      refuses = λ s u p. keep s u (r s p) (r (s ++ u) p) (f.passes.kept s u p);
      meets = λ s u p. meet s u p (r s p) (r (s ++ u) p) (f.passes.goes (s ++ u) p) (f.passes.back s u p) (f.lacks.lacks s u p);
      within = stays_then f.within (λ a. (g a).within);
    }
  where
    keep : (s u : List ℕ) (x y : Got A) → Kept x y → KeptRefusal (onward x (λ a q. k a s q)) (onward y (λ a q. k a (s ++ u) q))
    keep s u (refused w q) y e = ⊎_elim (λ h. inl h) (λ h. inr (rw h refl)) e
    keep s u (got a q) y e = rw e ((g a).refuses s u q)

    last : (s : List ℕ) (p : ℕ) (x : Got A) (a : A) (q : ℕ) → p ≤ q → (q ≤ length s → x ≡ got a q) → (y : Got B) → Met q (length s) (k a s q) y
        → Met p (length s) (onward x (λ a q. k a s q)) y
    last s p x a q l c (got b t) d = tt
    last s p x a q l c (refused w t) d = (omega (arith, d.0), λ e. rw (c (omega (arith, d.0, e))) (d.1 e))

    meet : (s u : List ℕ) (p : ℕ) (x y : Got A) → Goes p y → Back (length s) x y → Lacked never p (length s) x y
        → Met p (length s) (onward x (λ a q. k a s q)) (onward y (λ a q. k a (s ++ u) q))
    meet s u p x (refused w q) l c d = ⊎_elim (λ z. absurd z) (λ m. (m.0, λ e. rw (m.1 e, d.0) refl)) d.1
    meet s u p x (got a q) l c d = last s p x a q l c (k a (s ++ u) q) ((g a).meets s u q)

ends_at_end : {A : Type 0} (a : A) → Ends (at_end a)
unfolding at_end place KeptRefusal Met CutAt ended number
ends_at_end {A} a =
    record {
      refuses = λ s u p. keep s u p (ltb p (length s)) refl;
      meets = λ s u p. meet s p (ltb p (length (s ++ u)));
      within = record { stays = λ s p i h. inside s p h (ltb p (length s)) };
    }
  where
    end : ℕ → Bool → Got A
    end p b = cond b (refused bytes_left p) (got a p)

    after : (p : ℕ) (b : Bool) → (end p b ≡ got a p) ⊎ (end p b ≡ refused bytes_left p)
    after p true = inr refl
    after p false = inl refl

    keep : (s u : List ℕ) (p : ℕ) (b : Bool) → ltb p (length s) ≡ b → KeptRefusal (end p b) (end p (ltb p (length (s ++ u))))
    keep s u p true e = inr (simp (lt-ltb p (length (s ++ u)) (omega (arith, length-append s u, ltb-true p (length s) e))))
    keep s u p false e = after p (ltb p (length (s ++ u)))

    meet : (s : List ℕ) (p : ℕ) (b : Bool) → Met p (length s) (end p (ltb p (length s))) (end p b)
    meet s p true = (omega arith, λ e. simp (le-ltb p (length s) (omega arith)) (ap (λ (n : ℕ). record { refusal = 0; at = n }) e))
    meet s p false = tt

    inside : (s : List ℕ) (p : ℕ) → p ≤ length s → (b : Bool) → place (end p b) ≤ length s
    inside s p h true = h
    inside s p h false = h

sections_end : Ends read_sections
unfolding read_sections
sections_end =
    ends_then (reads_counted _ reads_face)
    (λ f. ends_then (reads_counted _ (reads_override _))
    (λ o. ends_then (reads_counted _ (reads_family _))
    (λ m. ends_then (reads_counted _ reads_request) (λ q. ends_at_end _))))

-- ---- the check call

-- an accepted job is answered 0 and 0
unrefused : (s : List ℕ) → (check_job s).refusal ≡ 0 → check_job s ≡ record { refusal = 0; position = 0 }
unfolding check_job answer
unrefused s z = let a = accepted s z in ap answer a.1

empty : (b : List ℕ) → length b ≤ 0 → b ≡ []
empty [] l = refl
empty (x ∷ b) l = absurd (omega arith)

-- its position is in the job, or just past it, and so at most the longest job's length
answer_in : (s : List ℕ) (g : Got Job) → place g ≤ length s → (answer g).position ≤ length s
unfolding answer place
answer_in s (refused w p) l = l
answer_in s (got j p) l = omega arith

pub position_in_job : (s : List ℕ) → ((check_job s).position ≤ length s) × ((check_job s).position ≤ most_bytes)
unfolding check_job read_job answer
position_in_job s = limit (leb (length s) most_bytes) refl
  where
    limit : (b : Bool) → leb (length s) most_bytes ≡ b
        → ((answer (cond b (read_sections s 0) (refused overlong 0))).position ≤ length s)
        × ((answer (cond b (read_sections s 0) (refused overlong 0))).position ≤ most_bytes)
    limit true e =
        let h = answer_in s (read_sections s 0) (sections_end.within.stays s 0 (λ q z. absurd z) (omega arith)) in
        (h, omega (arith, leb-true (length s) most_bytes e))
    limit false e = (omega arith, omega arith)

-- bytes that follow change no refusal but 18
pub refusal_stays : (s u : List ℕ) → length (s ++ u) ≤ most_bytes → ((check_job s).refusal ≡ 0 → ⊥) → ((check_job s).refusal ≡ 18 → ⊥)
    → check_job (s ++ u) ≡ check_job s
unfolding check_job read_job answer KeptRefusal number
refusal_stays s u l h k =
    let m : length s ≤ most_bytes = omega (arith, length-append s u) in
    let whole : read_job s ≡ read_sections s 0 = simp (le-leb (length s) most_bytes m) in
    let wider : read_job (s ++ u) ≡ read_sections (s ++ u) 0 = simp (le-leb (length (s ++ u)) most_bytes l) in
    ap answer wider
    ∙ (go (read_sections s 0) (read_sections (s ++ u) 0) (sections_end.refuses s u 0)
    (λ e. h (ap (λ (g : Got Job). (answer g).refusal) whole ∙ e)) (λ e. k (ap (λ (g : Got Job). (answer g).refusal) whole ∙ e))
    ∙ sym (ap answer whole))
  where
    go : (x y : Got Job) → KeptRefusal x y → ((answer x).refusal ≡ 0 → ⊥) → ((answer x).refusal ≡ 18 → ⊥) → answer y ≡ answer x
    go (got j q) y e h k = absurd (h refl)
    go (refused w q) y e h k = ⊎_elim (λ z. absurd (k (ap number z))) (λ z. ap answer z) e

-- an accepted job ends where its bytes end
ends_there : (s : List ℕ) (j : Job) (q : ℕ) → read_sections s 0 ≡ got j q → q ≡ length s
unfolding place
ends_there s j q h =
    let low : length s ≤ q = (sections_read s j q h).last in
    let high : q ≤ length s = subst (λ g. place g ≤ length s) h (sections_end.within.stays s 0 (λ q z. absurd z) (omega arith)) in
    omega arith

-- bytes that follow an accepted job are 27, at the first of them
pub bytes_after_are_27 : (s u : List ℕ) → length (s ++ u) ≤ most_bytes → 0 < length u → (check_job s).refusal ≡ 0
    → check_job (s ++ u) ≡ record { refusal = 27; position = length s }
unfolding check_job read_job answer KeptRefusal number
bytes_after_are_27 s u l m z =
    let a = accepted s z in
    let whole = (job_read s (job_of s) a.0 a.1).1 in
    let wider : read_job (s ++ u) ≡ read_sections (s ++ u) 0 = simp (le-leb (length (s ++ u)) most_bytes l) in
    let end : a.0 ≡ length s = ends_there s (job_of s) a.0 whole in
    let kept : KeptRefusal (got (job_of s) a.0) (read_sections (s ++ u) 0) =
    subst (λ g. KeptRefusal g (read_sections (s ++ u) 0)) whole (sections_end.refuses s u 0) in
    ap answer wider
    ∙ ⊎_elim
    (λ e. absurd (let more : a.0 ≡ length (s ++ u) = ends_there (s ++ u) (job_of s) a.0 e in omega (arith, length-append s u)))
    (λ e. ap answer e ∙ ap (λ (n : ℕ). record { refusal = 27; position = n }) end)
    kept

-- ---- as bytes come in

-- cut off after any of its bytes a job lacks a field, or has the whole job's refusal already, or is accepted before bytes left
pub until_met : (s : List ℕ) (w : Refusal) (p : ℕ) → length s ≤ most_bytes → check_job s ≡ record { refusal = number w; position = p } → (n : ℕ) → Until s w n
until_met s w p l e n = go (eqb (check_job a).refusal 18) (eqb (check_job a).refusal 0) refl refl
  where
    a : List ℕ
    a = take n s

    b : List ℕ
    b = drop n s

    all : a ++ b ≡ s
    all = take-append-drop n s

    long : length (a ++ b) ≤ most_bytes
    long = rw all l

    row : (check_job s).refusal ≡ number w
    row = ap (λ (c : Checked). c.refusal) e

    same : length b ≤ 0 → a ≡ s
    same m = sym (append-nil a) ∙ ap (λ (x : List ℕ). a ++ x) (sym (empty b m)) ∙ all

    -- accepted, and so the whole unless bytes are left
    accepted_so : (check_job a).refusal ≡ 0 → Until s w n
    accepted_so z = last (ltb 0 (length b)) refl
      where
        last : (c : Bool) → ltb 0 (length b) ≡ c → Until s w n
        last true m =
            let after = bytes_after_are_27 a b long (ltb-true 0 (length b) m) z in
            whole (sym row ∙ ap (λ (x : List ℕ). (check_job x).refusal) (sym all) ∙ ap (λ (c : Checked). c.refusal) after) (unrefused a z)
        last false m = met (ap check_job (same (ltb-false 0 (length b) m)))

    go : (x y : Bool) → eqb (check_job a).refusal 18 ≡ x → eqb (check_job a).refusal 0 ≡ y → Until s w n
    go true y f g = lacking (eqb-true (check_job a).refusal 18 f)
    go false true f g = accepted_so (eqb-true (check_job a).refusal 0 g)
    go false false f g =
        met (sym (refusal_stays a b long (eqb-false (check_job a).refusal 0 g) (eqb-false (check_job a).refusal 18 f)) ∙ ap check_job all)

-- ---- the field first met

refusal_not_0 : (w : Refusal) → number w ≡ 0 → ⊥
refusal_not_0 w e = omega (arith, (number_row w).0, e)

-- what the check call says of a reader that ended so
answer_of : (w : Refusal) (n : ℕ) (g : Got Job) → ended g ≡ CutAt w n
    → answer g ≡ cond (eqb (number w) 27) (record { refusal = 0; position = 0 }) (record { refusal = 18; position = n })
unfolding CutAt ended answer
answer_of w n g = go (eqb (number w) 27) g
  where
    go : (b : Bool) (g : Got Job) → ended g ≡ cond b (record { refusal = 0; at = n }) (record { refusal = 18; at = n })
        → answer g ≡ cond b (record { refusal = 0; position = 0 }) (record { refusal = 18; position = n })
    go true (got j q) e = refl
    go true (refused v q) e = absurd (refusal_not_0 v (ap (λ (a : At). a.refusal) e))
    go false (got j q) e = absurd (let z : ◌≡◌ {A = ℕ} 0 18 = ap (λ (a : At). a.refusal) e in omega arith)
    go false (refused v q) e = ap (λ (a : At). record { refusal = a.refusal; position = a.at }) e

no_bytes : check_job [] ≡ record { refusal = 18; position = 0 }
unfolding check_job read_job read_sections counted count tested half field ◌>>=◌ onward answer number
no_bytes = refl

-- cut off before the field that is refused, the job lacks just that field; before bytes left it is accepted
pub first_met : (s : List ℕ) (w : Refusal) (p : ℕ) → read_job s ≡ refused w p → check_job (take p s) ≡ cut_before w p
unfolding check_job read_job Met number place
first_met s w p = go (leb (length s) most_bytes) refl
  where
    OfRow : Got Job → Type 0
    OfRow (refused v q) = check_job (take q s) ≡ cut_before v q
    OfRow (got j q) = Unit {0}

    go : (b : Bool) → leb (length s) most_bytes ≡ b → cond b (read_sections s 0) (refused overlong 0) ≡ refused w p → check_job (take p s) ≡ cut_before w p
    go true t e =
        let a = take p s in
        let inside : p ≤ length s = subst (λ (g : Got Job). place g ≤ length s) e (sections_end.within.stays s 0 (λ q z. absurd z) (omega arith)) in
        let long : length a ≡ p = omega (arith, length-take p s) in
        let whole : read_sections (a ++ drop p s) 0 ≡ refused w p = ap (λ (z : List ℕ). read_sections z 0) (take-append-drop p s) ∙ e in
        let met = subst (Met 0 (length a) (read_sections a 0)) whole (sections_end.meets a (drop p s) 0) in
        let read : read_job a ≡ read_sections a 0 = simp (le-leb (length a) most_bytes (omega (arith, leb-true (length s) most_bytes t))) in
        subst (λ n. check_job a ≡ cut_before w n) long (ap answer read ∙ answer_of w (length a) (read_sections a 0) (met.1 (sym long)))
    go false t e = subst OfRow e no_bytes
