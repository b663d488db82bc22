use Rattle.font.specs.Refusals as Refusals
use Rattle.query.specs.Positions.{walk_in}
use Rattle.query.proofs.WalkCases.{too_long, to_the_end}
use Rattle.query.proofs.job.walk.Goals as goal

pub returns-then-job-gt-MOST_BYTES : goal.returns-then-job-gt-MOST_BYTES
unfolding walk_in Refusals.number
returns-then-job-gt-MOST_BYTES c = too_long _ c.if-job-gt-MOST_BYTES.true

pub returns : goal.returns
returns c = to_the_end c.if-job-gt-MOST_BYTES.false c.whole.ensures
