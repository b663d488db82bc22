use mathlib.Core.Path.{sym}
use Rattle.font.specs.Slant.{reading_number}
use Rattle.query.specs.Call.{map_ok}
use Rattle.query.proofs.CodeAnswers.{made_answer, always_made}
use Rattle.query.proofs.call.with_synthesis.Goals as goal

pub returns-in_err-synthesis : goal.returns-in_err-synthesis
returns-in_err-synthesis c =
    let h = c.in_err-synthesis.ensures in
    absurd (always_made (reading_number c.args.reading) c.args.font.attributes c.varies.result c.args.wanted _ h)

pub returns : goal.returns
unfolding map_ok
returns c =
    rw (sym c.varies.ensures)
    (made_answer (reading_number c.args.reading) c.args.font.attributes c.varies.result c.args.wanted c.args.offer c.args.font.charmap_index c.in_ok-synthesis.synthesis c.in_ok-synthesis.ensures)
