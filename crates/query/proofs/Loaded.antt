-- What a search keeps of its job is what was loaded.
use Prim.Native.Nat.{ℕ}
use mathlib.Core.Path.{refl, ap, ◌∙◌}
use mathlib.Core.List.{List}
use Rattle.matching.specs.declared.rows.Row.{Row}
use Rattle.query.specs.Values.{face_at}
use Rattle.query.specs.CallTables.{TablesOf}
use Rattle.query.specs.Listed.{Loaded}

pub tables_of : {s : List ℕ} {rows : List Row} {families : List ℕ} → Loaded s rows families → TablesOf s rows families
tables_of l =
    record {
      accepted = l.accepted;
      room = l.room;
      row = λ i b. let r = l.row i b in record { entry = _; told = refl; face = r.face; taken = r.taken; inside = r.inside };
      long = l.long;
      family = l.family;
      known = l.known;
    }

pub loaded_of : {s : List ℕ} {rows : List Row} {families : List ℕ} → TablesOf s rows families → Loaded s rows families
loaded_of t =
    record {
      accepted = t.accepted;
      room = t.room;
      row = λ i b. let r = t.row i b in record { face = ap (face_at _) r.told ∙ r.face; taken = rw r.told r.taken; inside = rw r.told r.inside };
      long = t.long;
      family = t.family;
      known = t.known;
    }
