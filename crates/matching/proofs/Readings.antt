-- A call that reads a number as a reading, and hands up a refusal by `?`.
use Rattle.std.specs.Prelude.{Ok, Err}
use Prim.Native.Nat.{ℕ}
use mathlib.Core.Path.{◌≡◌}
use mathlib.Core.Bool.{true, cond}
use Rattle.std.proofs.lemmas.Result.{err_from_is_err_and}
use Rattle.font.specs.Refusals.{number}
use Rattle.font.specs.Slant.{is_reading, reading_of}
use Rattle.font.specs.declared.refusal.Refusal.{Refusal}
use Rattle.font.specs.declared.slant.Reading.{Reading}
use Rattle.font.proofs.Readings.{reading_stands, of_reading, of_none}
use Rattle.font.proofs.Refusals.{numbered}

pub is_known : (n : ℕ) (r : Reading) → Ok r ≡ reading_of n → is_reading n ≡ true
is_known n r e = rw (of_reading n r e) (reading_stands r)

pub no_reading : (n known : ℕ) (why : Refusal) → Err why ≡ reading_of n → number why ≡ cond (is_reading n) known 25
unfolding number
no_reading n known why e = let none = of_none n why e in rw (none.0, none.1)

pub ruleset readings = (is_known, no_reading, of_reading, numbered, err_from_is_err_and)
