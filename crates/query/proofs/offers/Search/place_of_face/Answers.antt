use mathlib.Core.Path.{refl}
use native.Mathlib.Omega.{arith}
use Rattle.query.specs.Listed.{search_in}
use Rattle.query.proofs.Checks.{short_job}
use Rattle.query.proofs.JobTables.{counted_at}
use Rattle.query.proofs.NamedFaces.{family_few, number_has_row, entry_inside, entry_taken, face_named}
use Rattle.query.proofs.Loaded.{tables_of}
use Rattle.query.proofs.offers.Search.place_of_face.Goals as goal

pub bounds-self-family : goal.bounds-self-family
bounds-self-family c = family_few (tables_of c.args.self.loaded) c.requires.names

pub bounds-self-number : goal.bounds-self-number
bounds-self-number c = number_has_row (tables_of c.args.self.loaded) c.requires.names c.wide-at.ensures.0 c.u16_at-number.ensures

pub returns : goal.returns
unfolding search_in
returns c =
    let loaded = tables_of c.args.self.loaded in
    let names = c.requires.names in
    let begins = c.wide-at.ensures.0 in
    let short = short_job _ loaded.accepted in
    let section = counted_at _ _ _ _ _ c.requires.section_in in
    let inside = entry_inside loaded names begins c.u16_at-number.ensures c.wide-entry.ensures.0 in
    record {
      found = refl;
      offer = refl;
      wanted_is = refl;
      readable = record { section = omega arith; overrides = section.few; entry = omega arith; taken = entry_taken loaded names begins c.u16_at-number.ensures c.wide-entry.ensures.0 };
      face = λ reading font. face_named loaded names begins c.u16_at-number.ensures c.wide-entry.ensures.0 c.requires.section_in;
    }
