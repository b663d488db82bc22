use Prim.Native.Nat.{ℕ, ◌-◌}
use mathlib.Core.List.{List}
use Rattle.query.specs.Sections.{Section, read_entry}
use Rattle.query.specs.Positions.{KeptFrom, ReadsAs}
use Rattle.query.proofs.NotedEntries.{Passed}
use Rattle.query.proofs.sections.entry_run.Given as goal

abbrev pub invariant-loop-i : goal.invariant-loop-i
invariant-loop-i g l = record {
  passed : (section : Section) (s : List ℕ) → ReadsAs section s (λ p x. goal.F-post g l.entry p x) → Passed (read_entry section) s l.at l.count l.first l.table l.place l.i;
  kept : KeptFrom (l.count - l.first) l.initial.table l.table;
}
