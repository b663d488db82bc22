-- The walk through a job: what it answers, and where it found the entries of an accepted job, from what its steps do.
use Rattle.std.specs.Prelude.{Option, None, Some}
use Prim.Native.Nat.{ℕ, ◌+◌, ◌-◌, ◌≤◌, ◌<◌}
use mathlib.Core.Path.{◌≡◌, refl, sym, ap, ◌∙◌}
use mathlib.Core.List.{List}
use native.Mathlib.Omega.{arith}
use lib.ListN.{length, get_or}
use Rattle.font.specs.Tables.{u16_at}
use Rattle.query.specs.Reader.{At}
use Rattle.query.specs.Job.{Checked}
use Rattle.query.specs.Positions.{WalkEnd}
use Rattle.query.specs.Sections.{Families, Requests}
use Rattle.query.specs.Sizes.{most_bytes, most_faces, most_overrides, most_families, most_requests}
use Rattle.query.specs.Reader.{Got, got, Reader, onward, ended, ◌>>=◌}
use Rattle.query.specs.Fields.{counted}
use Rattle.query.specs.Entries.{Request, read_face, read_override, read_family, read_request}
use Rattle.query.specs.Job.{Job, at_end, read_sections, answer, check_job, job_of}
use Rattle.query.specs.Positions.{NotedSection, KeptFrom, checked_end, Asked, Requested, Begins, SectionsAnswer, WalkAnswer}
use Rattle.query.proofs.Ends.{stops, goes, got_there, not_got}
use Rattle.query.proofs.Leaves.{counted_length}
use Rattle.query.proofs.Checks.{bytes_left_lem, no_bytes_left, over, short, answers_none, answers_refusal, answered, accepted, job_read, Sections, sections_read}

-- how a walk ends at a refusal
abbrev pub refused_walk : At → WalkEnd
refused_walk a = record { refusal = a.refusal; position = a.at; overrides = 0; request = None }

-- ---- the requests

module _ (s : List ℕ) (at asked : ℕ) where
  refused_requests : {a : At} → (a.refusal ≡ 0 → ⊥)
      → ((job : List Request → Job) → a ≡ ended ((counted most_requests read_request >>= λ rs. at_end (job rs)) s at)) → Requested s at asked (refused_walk a)
  refused_requests h end =
      record {
        end = λ job. answers_refusal _ (end job) h;
        request = λ rs q z. absurd (h z);
      }

  module _ {a : At} (read : a ≡ ended (counted most_requests read_request s at)) where
    -- the section is refused
    pub no_requests : (a.refusal ≡ 0 → ⊥) → Requested s at asked (refused_walk a)
    no_requests h = refused_requests h (λ job. stops (counted most_requests read_request) (λ rs. at_end (job rs)) s at read h)

    -- bytes follow it
    pub bytes_follow : a.refusal ≡ 0 → a.at < length s → Requested s at asked (refused_walk (record { refusal = 27; at = a.at }))
    bytes_follow z l =
        refused_requests (λ h. omega arith)
        (λ job. goes (counted most_requests read_request) (λ rs. at_end (job rs)) s at read z (λ rs g. bytes_left_lem (job rs) s a.at l))

    -- it ends the job
    module _ (z : a.refusal ≡ 0) (l : length s ≤ a.at) where
      all_requests : {p : Option ℕ} → ((rs : List Request) (q : ℕ) → counted most_requests read_request s at ≡ got rs q → Asked s rs asked p)
          → Requested s at asked (record { refusal = 0; position = 0; overrides = 0; request = p })
      all_requests found =
          record {
            end = λ job.
                answers_none _ (goes (counted most_requests read_request) (λ rs. at_end (job rs)) s at read z (λ rs g. no_bytes_left (job rs) s a.at l)) refl;
            request = λ rs q y e. found rs q e;
          }

      -- without the asked one
      pub not_asked : u16_at s at ≤ asked → Requested s at asked (record { refusal = 0; position = 0; overrides = 0; request = None })
      not_asked few = all_requests (λ rs q e. omega (arith, counted_length most_requests read_request s at rs q e))

      -- with it
      pub asked_there : {before after : List ℕ} {m : ℕ} → asked < u16_at s at → NotedSection Requests s at asked before after → 0 < length after
          → m ≡ get_or after 0 0 → Requested s at asked (record { refusal = 0; position = 0; overrides = 0; request = Some m })
      asked_there {before} {after} more notes room there =
          all_requests
          (λ rs q e.
          let known : asked < length rs = omega (arith, counted_length most_requests read_request s at rs q e) in
          let here : asked + 0 ≡ asked = omega arith in
          record { known = known; lies = λ d. rw there (rw here at ((notes.noted rs q e).lies 0 d room (omega arith))) })

-- ---- the four sections

-- a refusal ends the walk
pub refused_sections : {s before families : List ℕ} {asked : ℕ} {a : At} → a ≡ ended (read_sections s 0) → (a.refusal ≡ 0 → ⊥)
    → SectionsAnswer s (refused_walk a) before families asked
refused_sections end h =
    record {
      end = answers_refusal _ end h;
      begins = λ job q is. absurd (not_got end h is);
      kept = λ job q is. absurd (not_got end h is);
    }

-- where a reader ended
ends_at : {A : Type 0} {g : Got A} {a : At} {v : A} {q : ℕ} → a ≡ ended g → g ≡ got v q → a.at ≡ q
unfolding ended
ends_at e is = ap (λ (x : At). x.at) (e ∙ ap ended is)

-- what follows what was read
followed : {A B : Type 0} (r : Reader A) (k : A → Reader B) {s : List ℕ} {p : ℕ} {v : A} {q : ℕ} → r s p ≡ got v q → (r >>= k) s p ≡ k v s q
unfolding ◌>>=◌ onward
followed r k e = rw e refl

module _ (s : List ℕ) {a : At} (faces : a ≡ ended (counted most_faces read_face s 0)) where
  pub no_faces : (a.refusal ≡ 0 → ⊥) → a ≡ ended (read_sections s 0)
  unfolding read_sections
  no_faces h = stops _ _ s 0 faces h

  module _ (z : a.refusal ≡ 0) {n : ℕ} (count : n ≡ u16_at s 0) {b : At} (overrides : b ≡ ended (counted most_overrides (read_override n) s a.at)) where
    pub no_overrides : (b.refusal ≡ 0 → ⊥) → b ≡ ended (read_sections s 0)
    unfolding read_sections
    no_overrides h =
        goes _ _ s 0 faces z
        (λ fs e. stops _ _ s a.at (rw (count ∙ sym (counted_length most_faces read_face s 0 fs a.at e)) at overrides) h)

    module _ (y : b.refusal ≡ 0) {d : At} (families : d ≡ ended (counted most_families (read_family n) s b.at)) where
      pub no_families : (d.refusal ≡ 0 → ⊥) → d ≡ ended (read_sections s 0)
      unfolding read_sections
      no_families h =
          goes _ _ s 0 faces z
          (λ fs e. let same = count ∙ sym (counted_length most_faces read_face s 0 fs a.at e) in
          goes _ _ s a.at (rw same at overrides) y (λ os g. stops _ _ s b.at (rw same at families) h))

      module _ (x : d.refusal ≡ 0) {asked : ℕ} {w : WalkEnd} (requests : Requested s d.at asked w) where
        -- what is read after the third section is all that is read
        last_section : (job : List Request → Job) × (read_sections s 0 ≡ (counted most_requests read_request >>= λ rs. at_end (job rs)) s d.at)
        unfolding read_sections
        last_section =
            let f = got_there faces z in
            let same : n ≡ length f.0 = count ∙ sym (counted_length most_faces read_face s 0 f.0 a.at f.1) in
            let o = got_there (rw same at overrides) y in
            let m = got_there (rw same at families) x in
            (λ rs. record { faces = f.0; overrides = o.0; families = m.0; requests = rs }, followed _ _ f.1 ∙ (followed _ _ o.1 ∙ followed _ _ m.1))

        sections_end : checked_end w ≡ answer (read_sections s 0)
        sections_end = requests.end last_section.0 ∙ ap answer (sym last_section.1)

        -- the requests are refused
        pub no_last : (w.refusal ≡ 0 → ⊥) → {ms₀ ms : List ℕ} → SectionsAnswer s w ms₀ ms asked
        no_last h =
            record {
              end = sections_end;
              begins = λ job q is. absurd (h (answered sections_end is));
              kept = λ job q is. absurd (h (answered sections_end is));
            }

        -- the places that the steps came to are those of the job's sections
        record Places (q : ℕ) (j : Job) : Type 0 where
          parts : Sections s q j
          number : n ≡ length j.faces
          second : a.at ≡ parts.second
          third : b.at ≡ parts.third
          fourth : d.at ≡ parts.fourth

        places : (j : Job) (q : ℕ) → read_sections s 0 ≡ got j q → Places q j
        places j q is =
            let p = sections_read s j q is in
            let number : n ≡ length j.faces = count ∙ sym (counted_length most_faces read_face s 0 j.faces p.second p.faces) in
            let second : a.at ≡ p.second = ends_at faces p.faces in
            let third : b.at ≡ p.third = ends_at (rw (number, second) at overrides) p.overrides in
            record {
              parts = p;
              number = number;
              second = second;
              third = third;
              fourth = ends_at (rw (number, third) at families) p.families;
            }

        pub walked : {ms₀ ms : List ℕ} → NotedSection (Families n) s b.at 0 ms₀ ms
            → SectionsAnswer s (record { refusal = w.refusal; position = w.position; overrides = a.at; request = w.request }) ms₀ ms asked
        walked {ms₀} {ms} noted-families =
            record {
              end = sections_end;
              begins = λ j q is. begins j q is (places j q is);
              kept = λ j q is. kept j q (places j q is);
            }
          where
            here : (j : Job) (q : ℕ) (p : Places q j) → NotedSection (Families (length j.faces)) s p.parts.third 0 ms₀ ms
            here j q p = rw (p.number, p.third) at noted-families

            kept : (j : Job) (q : ℕ) → Places q j → KeptFrom (length j.families) ms₀ ms
            kept j q p =
                let all : length j.families - 0 ≡ length j.families = omega arith in
                rw all at ((here j q p).kept j.families p.parts.fourth p.parts.families)

            begins : (j : Job) (q : ℕ) → read_sections s 0 ≡ got j q → Places q j
                → Begins s j (record { refusal = w.refusal; position = w.position; overrides = a.at; request = w.request }) ms asked
            begins j q is p =
                let zero : w.refusal ≡ 0 = answered sections_end is in
                let read = rw (sym p.fourth) at p.parts.requests in
                record {
                  override = record { end = p.parts.third; read = rw p.second p.parts.overrides };
                  family = (here j q p).noted j.families p.parts.fourth p.parts.families;
                  request = requests.request j.requests q zero read;
                }

-- ---- the answer

pub too_long : (s : List ℕ) {before families : List ℕ} {asked : ℕ} → most_bytes < length s
    → WalkAnswer s (refused_walk (record { refusal = 17; at = 0 })) before families asked
too_long s l = record { checked = over s l; begins = λ z. absurd (omega arith); kept = λ z. absurd (omega arith) }

pub to_the_end : {s before families : List ℕ} {asked : ℕ} {w : WalkEnd} → length s ≤ most_bytes → SectionsAnswer s w before families asked
    → WalkAnswer s w before families asked
to_the_end {s} {before} {families} {asked} {w} l whole =
    record {
      checked = is;
      begins = λ z. let r = read z in whole.begins (job_of s) r.0 r.1;
      kept = λ z. let r = read z in whole.kept (job_of s) r.0 r.1;
    }
  where
    is : checked_end w ≡ check_job s
    is = whole.end ∙ short s l

    read : w.refusal ≡ 0 → (q : ℕ) × (read_sections s 0 ≡ got (job_of s) q)
    read z =
        let a = accepted s (sym (ap (λ (c : Checked). c.refusal) is) ∙ z) in
        (a.0, (job_read s (job_of s) a.0 a.1).1)
