-- Section 6: the job, and the check call's answer.
use Rattle.std.specs.Prelude.{ℕ, cond, List, [], length, leb, ltb, Result, Ok, Err}
use Rattle.font.specs.Refusals as Refusals
use Rattle.query.specs.declared.job.Refused.{Refused}
use Rattle.query.specs.Sizes.{most_bytes, most_faces, most_overrides, most_families, most_requests}
use Rattle.query.specs.Reader.{overlong, bytes_left, number, Got, refused, got, Reader, ◌>>=◌}
use Rattle.query.specs.Fields.{counted}
use Rattle.query.specs.Entries.{Face, Override, Family, Request, read_face, read_override, read_family, read_request}

pub record Job : Type 0 where
  pub faces : List Face
  pub overrides : List Override
  pub families : List Family
  pub requests : List Request

-- 27 is "bytes left", at "the first byte left"
unfoldable pub at_end : {A : Type 0} → A → Reader A
at_end a s p = cond (ltb p (length s)) (refused bytes_left p) (got a p)

-- "Four sections, each after a 16-bit count: Faces (to 256) .. Overrides (to 256) .. Families (to 64) .. Requests (to 256)"
unfoldable pub read_sections : Reader Job
read_sections = do
  faces ← counted most_faces read_face
  overrides ← counted most_overrides (read_override (length faces))
  families ← counted most_families (read_family (length faces))
  requests ← counted most_requests read_request
  at_end (record { faces = faces; overrides = overrides; families = families; requests = requests })

-- 17 is "job over 16,777,216 bytes": "Call rows, then the whole job"
unfoldable pub read_job : List ℕ → Got Job
read_job s = cond (leb (length s) most_bytes) (read_sections s 0) (refused overlong 0)

-- a refusal's number and its field's position, or 0 and 0
pub record Checked : Type 0 where
  pub refusal : ℕ
  pub position : ℕ

-- so of the code's answer
unfoldable pub checked_in : {A : Type 0} → Result A Refused → Checked
checked_in (Ok a) = record { refusal = 0; position = 0 }
checked_in (Err why) = record { refusal = Refusals.number why.refusal; position = why.position }

-- "the check call, which takes the job alone, adds the field's position (.. 0 for Call ..) and answers 0 and 0 for an accepted job"
unfoldable pub answer : Got Job → Checked
answer (refused why p) = record { refusal = number why; position = p }
answer (got j p) = record { refusal = 0; position = 0 }

unfoldable pub check_job : List ℕ → Checked
check_job s = answer (read_job s)

-- the job that accepted bytes are read as; of others nothing is said
unfoldable pub job_in : Got Job → Job
job_in (refused why p) = record { faces = []; overrides = []; families = []; requests = [] }
job_in (got j p) = j

unfoldable pub job_of : List ℕ → Job
job_of s = job_in (read_job s)
