-- Laws of refusals, and of those of calls on a face by value.
use Prim.Native.Nat.{ℕ, ◌≤◌}
use mathlib.Core.Path.{◌≡◌, refl}
use mathlib.Core.Bool.{Bool, true, false, cond, ◌&&◌}
use native.Mathlib.Omega.{arith}
use lib.Dec.{leb, eqb}
use borrow.Author.Tests.{leb-true}
use Rattle.std.specs.Prelude.{Ok, Err}
use Rattle.font.specs.declared.font.FontInfo.{FontInfo}
use Rattle.font.specs.declared.refusal.Refusal.{Refusal}
use Rattle.font.specs.declared.refusal.Refusal.TheVariants.{WrongOutput, Overlong, PastEnd, OverLimit, NotHeld, BadDirectory, NoCharmap, ManyAxes, NoFace, Unknown, BadNumber, BytesLeft, NoRequest, FourthSetting, NoFont, DamagedTable}
use Rattle.font.specs.Refusals.{number, refusal_in, checked}
use Rattle.font.specs.Overrides.{refusal_of, accepted_face, answered}

-- no refusal has the number of none
pub numbered : (why : Refusal) → eqb (number why) 0 ≡ false
unfolding number
numbered WrongOutput = refl
numbered Overlong = refl
numbered PastEnd = refl
numbered OverLimit = refl
numbered NotHeld = refl
numbered BadDirectory = refl
numbered NoCharmap = refl
numbered ManyAxes = refl
numbered NoFace = refl
numbered Unknown = refl
numbered BadNumber = refl
numbered BytesLeft = refl
numbered NoRequest = refl
numbered FourthSetting = refl
numbered NoFont = refl
numbered DamagedTable = refl

-- so each number is 16 or more, and none is 0
pub some_number : (why : Refusal) → 16 ≤ number why
unfolding number
some_number WrongOutput = omega arith
some_number Overlong = omega arith
some_number PastEnd = omega arith
some_number OverLimit = omega arith
some_number NotHeld = omega arith
some_number BadDirectory = omega arith
some_number NoCharmap = omega arith
some_number ManyAxes = omega arith
some_number NoFace = omega arith
some_number Unknown = omega arith
some_number BadNumber = omega arith
some_number BytesLeft = omega arith
some_number NoRequest = omega arith
some_number FourthSetting = omega arith
some_number NoFont = omega arith
some_number DamagedTable = omega arith

pub not_zero : (why : Refusal) → number why ≡ 0 → ⊥
not_zero why e = omega (arith, some_number why, e)

-- ---- a call on a face by value

pub refuses : (f changed : FontInfo) (why : Refusal) (n : ℕ) → refusal_in {A = Unit {0}} (Err why) ≡ n → checked f (Err why) ≡ answered n f changed
unfolding refusal_in checked answered
refuses f changed why n e = rw (← e, numbered why)

pub answers : (f changed : FontInfo) (n : ℕ) → refusal_in {A = Unit {0}} (Ok tt) ≡ n → checked f (Ok changed) ≡ answered n f changed
unfolding refusal_in checked answered
answers f changed n e = rw (← e)

-- a face that is not refused has at most 16 axes
pub within_limit : (f : FontInfo) (given : Bool) → refusal_of f given ≡ 0 → f.axis_count ≤ 16
unfolding refusal_of
within_limit f given = go (leb f.axis_count 16) refl
  where
    go : (b : Bool) → leb f.axis_count 16 ≡ b → ◌≡◌ {A = ℕ} (cond b (cond (accepted_face f && given) 0 26) 19) 0 → f.axis_count ≤ 16
    go true e h = leb-true f.axis_count 16 e
    go false e h = absurd (omega arith)

pub ruleset by_value = (refuses, answers, within_limit)
