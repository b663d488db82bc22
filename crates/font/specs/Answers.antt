-- "Table lookup shall answer absent, damaged, or found." What each answer means, by the records of a directory that fits. proofs/Answers.antt shows
-- that `Tables.find_table` answers so, and that no other answer means right.
use Rattle.std.specs.Prelude.{ℕ, ◌+◌, ◌≤◌, ◌<◌, ◌≡◌, List, length}
use Rattle.font.specs.declared.tables.Table.{Table}
use Rattle.font.specs.declared.tables.Table.TheVariants.{Absent, Damaged, Found}
use Rattle.font.specs.Tables.{record_count, record_tag, record_offset, record_length}

-- the record i is "the first record with the tag"
pub record FirstWith (file : List ℕ) (start tag i : ℕ) : Type 0 where
  pub stated : i < record_count file start
  pub has : record_tag file start i ≡ tag
  pub none_before : (k : ℕ) → k < i → record_tag file start k ≡ tag → ⊥

-- Absent: no record has the tag. "Damaged means that the first record with the tag reaches past the file or the table is shorter than" needed. Found: neither, and
-- the table lies where the record says. A later record with the tag is never looked at.
pub data Means (file : List ℕ) (start tag least : ℕ) : Table → Type 0 where
  absent : ((k : ℕ) → k < record_count file start → record_tag file start k ≡ tag → ⊥) → Means file start tag least Absent
  past_file : (i : ℕ) → FirstWith file start tag i → length file < record_offset file start i + record_length file start i
      → Means file start tag least Damaged
  too_short : (i : ℕ) → FirstWith file start tag i → record_length file start i < least → Means file start tag least Damaged
  found : (i : ℕ) → FirstWith file start tag i → record_offset file start i + record_length file start i ≤ length file → least ≤ record_length file start i
      → Means file start tag least (Found (record_offset file start i) (record_length file start i))
