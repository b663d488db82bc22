use native.Mathlib.Omega.{arith}
use Rattle.query.proofs.NotedEntries.{place_noted, not_noted}
use Rattle.query.proofs.sections.note.Goals as goal
use Rattle.query.proofs.sections.note.Goals.{else-first-i-via-then-first-i+else-i-first, else-first-i-via-else-first-i}

pub returns-then-i-first : goal.returns-then-i-first
returns-then-i-first c = place_noted _ _ _ _ c.if-first-i.true c.if-i-first.true

pub returns-else-first-i : goal.returns-else-first-i
returns-else-first-i c =
    not_noted _ _ _ _
    (λ k e l. elim c.else-first-i.branch [ else-first-i-via-then-first-i+else-i-first w ↦ omega arith | else-first-i-via-else-first-i w ↦ omega arith ])
