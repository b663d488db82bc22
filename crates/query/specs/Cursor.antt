-- Section 6: the cursor. A step asks for the offer of the cursor's number, and hands back the cursor and the answer.
use Rattle.std.specs.Prelude.{ℕ, zero, suc, ◌+◌, ◌-◌, ◌^◌, Bool, ◌&&◌, cond, List, [], ◌∷◌, ltb, eqb}
use Rattle.query.specs.Call.{CallAnswer}
use Rattle.query.specs.declared.cursor.Cursor.{Cursor}
use Rattle.query.specs.declared.cursor.Step.{Step}
use Rattle.query.specs.Call.{answer_call, answer_in}

-- what a step hands back: the cursor, and the answer
pub record Stepped : Type 0 where
  pub cursor : Cursor
  pub answer : CallAnswer

-- so of the code's
unfoldable pub step_in : Step → Stepped
step_in s = record { cursor = s.cursor; answer = answer_in s.answer }

-- a fresh cursor
unfoldable pub fresh : ℕ → Cursor
fresh request = record { request = request; next = 0 }

-- One further where there was an offer. The last number that a cursor can hold has no offer, and stays.
unfoldable pub after : Cursor → Bool → Cursor
after cursor found =
    record { request = cursor.request; next = cond (found && ltb cursor.next (2 ^ 32 - 1)) (cursor.next + 1) cursor.next }

-- 0 is an offer; 1 is "past the list", and the rest are refusals
unfoldable pub is_offer : CallAnswer → Bool
is_offer answer = eqb answer.result 0

-- a step over a job under a reading: the answer to the cursor's numbers, and the cursor after it
unfoldable pub stepped : List ℕ → ℕ → Cursor → Stepped
stepped job reading cursor =
    record {
      cursor = after cursor (is_offer (answer_call job reading cursor.request cursor.next));
      answer = answer_call job reading cursor.request cursor.next;
    }

-- "each step given the cursor that the last returned and otherwise the same inputs": the answers of n steps
unfoldable pub run : List ℕ → ℕ → ℕ → Cursor → List CallAnswer
run job reading zero cursor = []
run job reading (suc n) cursor = (stepped job reading cursor).answer ∷ run job reading n (stepped job reading cursor).cursor
