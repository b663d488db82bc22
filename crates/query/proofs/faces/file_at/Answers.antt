use native.Mathlib.Omega.{arith}
use lib.ListN.{length}
use Rattle.std.proofs.lemmas.List.{take_min, drop_min}
use Rattle.std.proofs.lemmas.Slice.{between_to_end}
use Rattle.query.specs.Values.{file_at}
use Rattle.query.proofs.faces.file_at.Goals as goal

pub returns : goal.returns
unfolding file_at
returns c =
    let job = c.args.job.now in
    rw (c.min.ensures, take_min, between_to_end job c.min-start.result (length job) (omega arith), c.min-start.ensures, drop_min, c.u32_at-size.ensures)
