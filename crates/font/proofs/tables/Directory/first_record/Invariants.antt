use mathlib.Core.Path.{◌≡◌}
use lib.Dec.{eqb}
use Rattle.font.specs.First.{first}
use Rattle.font.specs.Tables.{record_tag}
use Rattle.font.proofs.tables.Directory.first_record.Given as goal

abbrev pub invariant-loop-i : goal.invariant-loop-i
invariant-loop-i l = first (λ k. eqb (record_tag l.self.file.now l.self.start k) l.tag) l.i ≡ l.i
