-- The numbers of refusals.
use Rattle.std.proofs.Common.{◌≡◌, ℕ, Bool, Result, Ok, Err, eqb, refl, sym, ◌∙◌, ap}
use Rattle.std.specs.Result.{result_eq}
use denote.Enum.Bare.{sameb}
use Rattle.font.specs.Refusals.{refusal_in, number}
use Rattle.font.specs.contracts.refusal.Refusal.{the_type}
use Rattle.font.specs.declared.refusal.Refusal.{Refusal}
use Rattle.font.specs.declared.refusal.Refusal.TheVariants.{WrongOutput, Overlong, PastEnd, OverLimit, NotHeld, BadDirectory, NoCharmap, ManyAxes, NoFace, Unknown, BadNumber, BytesLeft, NoRequest, FourthSetting, NoFont, DamagedTable}

-- what the test of a refusal for `OverLimit` says of its number
pub over_limit : (why : Refusal) → sameb the_type why OverLimit ≡ eqb (number why) 19
unfolding number
over_limit WrongOutput = refl
over_limit Overlong = refl
over_limit PastEnd = refl
over_limit OverLimit = refl
over_limit NotHeld = refl
over_limit BadDirectory = refl
over_limit NoCharmap = refl
over_limit ManyAxes = refl
over_limit NoFace = refl
over_limit Unknown = refl
over_limit BadNumber = refl
over_limit BytesLeft = refl
over_limit NoRequest = refl
over_limit FourthSetting = refl
over_limit NoFont = refl
over_limit DamagedTable = refl

-- and of an answer's
over : {A : Type 0} (E : A → A → Bool) (r : Result A Refusal) → result_eq E (sameb the_type) r (Err OverLimit) ≡ eqb (refusal_in r) 19
unfolding refusal_in
over E (Ok x) = refl
over E (Err why) = over_limit why

pub over_test : {A : Type 0} (E : A → A → Bool) (r : Result A Refusal) {n : ℕ} {b : Bool} → refusal_in r ≡ n
    → b ≡ result_eq E (sameb the_type) r (Err OverLimit) → eqb n 19 ≡ b
over_test E r e f = ap (λ (k : ℕ). eqb k 19) (sym e) ∙ sym (f ∙ over E r)
