-- Section 6: "First met, reading left to right". A reader takes the bytes of a job and a position, and answers the refusal that it meets, with
-- the position of the field, or a value and the next position. A font of a collection can be refused at its length field after its number was read.
use Rattle.std.specs.Prelude.{ℕ, zero, suc, ◌+◌, Bool, cond, List, [], ◌∷◌, length, leb, Result, Ok, Err}
use Rattle.font.specs.Refusals as Refusals
use Rattle.query.specs.declared.job.Refused.{Refused}

infixl 20 ◌>>=◌
-- the rows of the table that a job alone can meet: 17 to 27, 30 and 31
pub data Refusal : Type 0 where
  overlong past_end over_limit not_held bad_directory no_charmap many_axes no_face unknown bad_number bytes_left no_font damaged_table : Refusal

-- the table's column "No."
unfoldable pub number : Refusal → ℕ
number overlong = 17
number past_end = 18
number over_limit = 19
number not_held = 20
number bad_directory = 21
number no_charmap = 22
number many_axes = 23
number no_face = 24
number unknown = 25
number bad_number = 26
number bytes_left = 27
number no_font = 30
number damaged_table = 31

pub data Got (A : Type 0) : Type 0 where
  refused : Refusal → ℕ → Got A
  got : A → ℕ → Got A

abbrev pub Reader : Type 0 → Type 0
Reader A = List ℕ → ℕ → Got A

-- nothing more is read
unfoldable pub done : {A : Type 0} → A → Reader A
done a s p = got a p

-- the first refusal ends the reader
unfoldable pub onward : {A B : Type 0} → Got A → (A → ℕ → Got B) → Got B
onward (refused why p) k = refused why p
onward (got a p) k = k a p

-- one field or entry after another
unfoldable pub ◌>>=◌ : {A B : Type 0} → Reader A → (A → Reader B) → Reader B
◌>>=◌ r k s p = onward (r s p) (λ a q. k a s q)

-- a field of n bytes; 18 is "field past the end"
unfoldable pub field : {A : Type 0} → ℕ → (List ℕ → ℕ → A) → Reader A
field n value s p = cond (leb (p + n) (length s)) (got (value s p) (p + n)) (refused past_end p)

-- a further row of the table for the same field: "One field: row order."
unfoldable pub tested : {A : Type 0} → Refusal → (A → Bool) → Reader A → Reader A
tested why ok r s p = onward (r s p) (λ a q. cond (ok a) (got a q) (refused why p))

-- n entries of one kind
unfoldable pub many : {A : Type 0} → ℕ → Reader A → Reader (List A)
many zero r = done []
many (suc n) r = r >>= λ a. many n r >>= λ rest. done (a ∷ rest)

-- a refusal's number and its field's position, or 0 and the next position
pub record At : Type 0 where
  pub refusal : ℕ
  pub at : ℕ

-- so of the code's answer
unfoldable pub end_in : Result ℕ Refused → At
end_in (Ok next) = record { refusal = 0; at = next }
end_in (Err why) = record { refusal = Refusals.number why.refusal; at = why.position }

-- how a reader ended: the refusal and its field's position, or 0 and the next position
unfoldable pub ended : {A : Type 0} → Got A → At
ended (refused why p) = record { refusal = number why; at = p }
ended (got a p) = record { refusal = 0; at = p }
