-- What is printed of a job that is refused: section 6's refusal and position, and before the job's first field 25 for a value that is no reading, at position 0.
use Rattle.std.specs.Prelude.{ℕ, cond, List}
use Rattle.query.specs.Job.{Checked}
use Rattle.query.specs.Job.{check_job}
use Rattle.query.specs.Call.{refuses_reading}

unfoldable pub checked_under : List ℕ → ℕ → Checked
checked_under job reading = cond (refuses_reading job reading) (record { refusal = 25; position = 0 }) (check_job job)
