-- Where the entries of an accepted job begin, as the steps of a call hand it on. No promise to a user cites this.
use Rattle.std.specs.Prelude.{ℕ, ◌+◌, ◌-◌, ◌≤◌, ◌<◌, ◌≡◌, List, length, get_or, Option, None, Result, Ok, Err}
use Rattle.std.specs.Option.{MatchOption}
use Rattle.query.specs.declared.job.Refused.{Refused}
use Rattle.query.specs.declared.job.Walked.{Walked}
use Rattle.font.specs.Refusals as Refusals
use Rattle.query.specs.Sizes.{most_overrides, most_requests}
use Rattle.query.specs.Reader.{Reader, got, many, ended, end_in, ◌>>=◌}
use Rattle.query.specs.Fields.{counted}
use Rattle.query.specs.Entries.{Request, read_override, read_family, read_request}
use Rattle.query.specs.Sections.{Section, Entry, read_entry, limit_of}
use Rattle.query.specs.Job.{Job, Checked, at_end, read_sections, answer, check_job, job_of}

-- an entry lies where its reader reads it
pub record LiesAt {A : Type 0} (r : Reader A) (s : List ℕ) (p : ℕ) (a : A) : Type 0 where
  pub end : ℕ
  pub read : r s p ≡ got a end

-- a table has the positions of some entries, from the entry `first` on, as far as it has room
pub record Noted {A : Type 0} (r : Reader A) (s : List ℕ) (xs : List A) (first : ℕ) (table : List ℕ) : Type 0 where
  pub lies : (k : ℕ) (d : A) → k < length table → first + k < length xs → LiesAt r s (get_or table k 0) (get_or xs (first + k) d)

-- what stands from `from` on is as it was
pub record KeptFrom (from : ℕ) (before after : List ℕ) : Type 0 where
  pub kept : (k : ℕ) → from ≤ k → get_or after k 0 ≡ get_or before k 0

-- ---- what the steps of a walk note

-- the position of the i-th entry stands in its place, if the table has one for it, and all others are as they were
pub record NotesAt (first i place : ℕ) (before after : List ℕ) : Type 0 where
  pub long : length after ≡ length before
  pub noted : (k : ℕ) → first + k ≡ i → k < length after → get_or after k 0 ≡ place
  pub others : (k : ℕ) → (first + k ≡ i → ⊥) → get_or after k 0 ≡ get_or before k 0

-- of so many entries that begin at a position
pub record NotedRun {A : Type 0} (r : Reader A) (s : List ℕ) (at count first : ℕ) (table : List ℕ) : Type 0 where
  pub noted : (xs : List A) (q : ℕ) → many count r s at ≡ got xs q → Noted r s xs first table

-- of a section; what stands past its entries is as it was
pub record NotedSection (section : Section) (s : List ℕ) (at first : ℕ) (before after : List ℕ) : Type 0 where
  pub noted : (xs : List (Entry section)) (q : ℕ) → counted (limit_of section) (read_entry section) s at ≡ got xs q → Noted (read_entry section) s xs first after
  pub kept : (xs : List (Entry section)) (q : ℕ) → counted (limit_of section) (read_entry section) s at ≡ got xs q → KeptFrom (length xs - first) before after

-- a step reads the section's entries
abbrev pub ReadsAs : Section → List ℕ → (ℕ → Result ℕ Refused → Type 0) → Type 0
ReadsAs section s Gives = (p : ℕ) (x : Result ℕ Refused) → Gives p x → end_in x ≡ ended (read_entry section s p)

-- how the section's entries end, and what is noted of them
pub record RunEnds (section : Section) (s : List ℕ) (at count first : ℕ) (result : Result ℕ Refused) (after : List ℕ) : Type 0 where
  pub value : end_in result ≡ ended (many count (read_entry section) s at)
  pub noted : NotedRun (read_entry section) s at count first after

-- and so of the section
pub record SectionEnds (section : Section) (s : List ℕ) (at first : ℕ) (result : Result ℕ Refused) (before after : List ℕ) : Type 0 where
  pub value : end_in result ≡ ended (counted (limit_of section) (read_entry section) s at)
  pub noted : NotedSection section s at first before after

-- ---- the walk through a job

-- how a walk ended: a refusal's number and its field's position; and of an accepted job where its overrides begin, and where the asked request begins, if it
-- has that
pub record WalkEnd : Type 0 where
  pub refusal : ℕ
  pub position : ℕ
  pub overrides : ℕ
  pub request : Option ℕ

-- so of the code's answer
unfoldable pub walk_in : Result Walked Refused → WalkEnd
walk_in (Ok w) = record { refusal = 0; position = 0; overrides = w.overrides; request = w.request }
walk_in (Err why) = record { refusal = Refusals.number why.refusal; position = why.position; overrides = 0; request = None }

-- and of the answer of the requests, which do not know where the overrides begin
unfoldable pub asked_in : Result (Option ℕ) Refused → WalkEnd
asked_in (Ok p) = record { refusal = 0; position = 0; overrides = 0; request = p }
asked_in (Err why) = record { refusal = Refusals.number why.refusal; position = why.position; overrides = 0; request = None }

-- the request of a number lies at a position
pub record AskedAt (s : List ℕ) (rs : List Request) (asked p : ℕ) : Type 0 where
  pub known : asked < length rs
  pub lies : (d : Request) → LiesAt read_request s p (get_or rs asked d)

-- or there are not so many
abbrev pub Asked : List ℕ → List Request → ℕ → Option ℕ → Type 0
Asked s rs asked found = MatchOption found (length rs ≤ asked) (AskedAt s rs asked)

-- how a walk ended, as the check call says it
abbrev pub checked_end : WalkEnd → Checked
checked_end w = record { refusal = w.refusal; position = w.position }

-- the requests, which end the job, whatever is made of them
pub record Requested (s : List ℕ) (at asked : ℕ) (w : WalkEnd) : Type 0 where
  pub end : (job : List Request → Job) → checked_end w ≡ answer ((counted most_requests read_request >>= λ rs. at_end (job rs)) s at)
  pub request : (rs : List Request) (q : ℕ) → w.refusal ≡ 0 → counted most_requests read_request s at ≡ got rs q → Asked s rs asked w.request

-- where the section of overrides and the families of a job begin, and the asked request
pub record Begins (s : List ℕ) (job : Job) (w : WalkEnd) (families : List ℕ) (asked : ℕ) : Type 0 where
  pub override : LiesAt (counted most_overrides (read_override (length job.faces))) s w.overrides job.overrides
  pub family : Noted (read_family (length job.faces)) s job.families 0 families
  pub request : Asked s job.requests asked w.request

-- the four sections
pub record SectionsAnswer (s : List ℕ) (w : WalkEnd) (before families : List ℕ) (asked : ℕ) : Type 0 where
  pub end : checked_end w ≡ answer (read_sections s 0)
  pub begins : (job : Job) (q : ℕ) → read_sections s 0 ≡ got job q → Begins s job w families asked
  pub kept : (job : Job) (q : ℕ) → read_sections s 0 ≡ got job q → KeptFrom (length job.families) before families

-- the check call's answer; and of an accepted job where its entries begin, and that the table of families is as it was past them
pub record WalkAnswer (s : List ℕ) (w : WalkEnd) (before families : List ℕ) (asked : ℕ) : Type 0 where
  pub checked : checked_end w ≡ check_job s
  pub begins : w.refusal ≡ 0 → Begins s (job_of s) w families asked
  pub kept : w.refusal ≡ 0 → KeptFrom (length (job_of s).families) before families
