use Prim.Native.Nat.{ℕ, ◌+◌, ◌*◌, ◌-◌, ◌≤◌}
use mathlib.Core.List.{List}
use Rattle.font.specs.declared.font.FontInfo.{FontInfo}
use Rattle.query.specs.Reader.{many}
use Rattle.query.specs.Entries.{Override, read_override}
use Rattle.query.specs.Positions.{LiesAt}
use Rattle.query.specs.View.{after_overrides}
use Rattle.query.proofs.OverridesLeft.{Left}
use Rattle.query.proofs.faces.overridden.Given as goal

abbrev pub after : ℕ → List Override → FontInfo → FontInfo
after number os f = after_overrides os number f

abbrev pub invariant-loop : goal.invariant-loop
invariant-loop l = (l.place ≤ l.at + 65536 * l.counter) × (l.changed.axis_count ≤ 16)
    × ((n : ℕ) (os : List Override) → LiesAt (many l.count (read_override n)) l.job l.at os → Left (after l.number) n l.job (l.count - l.counter) l.place l.changed (after l.number os l.initial.changed))
