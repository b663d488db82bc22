-- Section 6: the four sections of a job as one thing: the entry of each, its reader, and the limit of its count.
use Rattle.std.specs.Prelude.{ℕ}
use Rattle.query.specs.Sizes.{most_faces, most_overrides, most_families, most_requests}
use Rattle.query.specs.Reader.{Reader}
use Rattle.query.specs.Entries.{Face, Override, Family, Request, read_face, read_override, read_family, read_request}

-- overrides and families are told how many faces the job has
pub data Section : Type 0 where
  Faces : Section
  Overrides : ℕ → Section
  Families : ℕ → Section
  Requests : Section

abbrev pub Entry : Section → Type 0
Entry Faces = Face
Entry (Overrides faces) = Override
Entry (Families faces) = Family
Entry Requests = Request

abbrev pub read_entry : (section : Section) → Reader (Entry section)
read_entry Faces = read_face
read_entry (Overrides faces) = read_override faces
read_entry (Families faces) = read_family faces
read_entry Requests = read_request

abbrev pub limit_of : Section → ℕ
limit_of Faces = most_faces
limit_of (Overrides faces) = most_overrides
limit_of (Families faces) = most_families
limit_of Requests = most_requests
