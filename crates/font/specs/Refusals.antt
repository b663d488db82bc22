-- Section 6: the table of refusals, and the answers of calls as the guide lays them out: a refusal's number, which is 0 for none, beside what is answered.
use Rattle.std.specs.Prelude.{ℕ, Result, Ok, Err}
use Rattle.font.specs.declared.refusal.Refusal.{Refusal}
use Rattle.font.specs.declared.refusal.Refusal.TheVariants.{WrongOutput, Overlong, PastEnd, OverLimit, NotHeld, BadDirectory, NoCharmap, ManyAxes, NoFace, Unknown, BadNumber, BytesLeft, NoRequest, FourthSetting, NoFont, DamagedTable}
use Rattle.font.specs.declared.font.FontInfo.{FontInfo}

-- the table's column "No."
unfoldable pub number : Refusal → ℕ
number WrongOutput = 16
number Overlong = 17
number PastEnd = 18
number OverLimit = 19
number NotHeld = 20
number BadDirectory = 21
number NoCharmap = 22
number ManyAxes = 23
number NoFace = 24
number Unknown = 25
number BadNumber = 26
number BytesLeft = 27
number NoRequest = 28
number FourthSetting = 29
number NoFont = 30
number DamagedTable = 31

-- the number of an answer's refusal, or 0
unfoldable pub refusal_in : {A : Type 0} → Result A Refusal → ℕ
refusal_in (Ok a) = 0
refusal_in (Err why) = number why

-- a face, and the number of the refusal, 0 for none. A face beside a refusal is not to be used.
pub record Checked : Type 0 where
  pub refusal : ℕ
  pub font : FontInfo

-- an answer with the face that the definition has beside a refusal
unfoldable pub checked : FontInfo → Result FontInfo Refusal → Checked
checked beside (Ok font) = record { refusal = 0; font = font }
checked beside (Err why) = record { refusal = number why; font = beside }
