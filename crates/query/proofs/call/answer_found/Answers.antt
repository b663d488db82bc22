use Rattle.std.specs.Prelude.{Ok, Some}
use mathlib.Core.Path.{refl}
use Rattle.query.specs.Listed.{search_in}
use Rattle.query.proofs.AnswerCases.{face_answered}
use Rattle.query.proofs.call.answer_found.Goals as goal

pub offered_face-font-requires : goal.offered_face-font-requires
unfolding search_in
offered_face-font-requires c = let r = c.requires in record { section_bound = (r.section, r.entry, r.overrides); taken = r.taken }

pub returns : goal.returns
unfolding search_in
returns c = face_answered {f = search_in (Ok (Some c.args.found))} refl c.offered_face-font.ensures c.with_synthesis.ensures
