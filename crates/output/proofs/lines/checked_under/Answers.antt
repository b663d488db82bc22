-- The answer of the check call, or where there is no such reading 25 or 17, by query's `no_reading`.
use Rattle.std.proofs.Common.{◌≡◌, ℕ, ◌<◌, Bool, true, false, cond, List, length, leb, Option, None, Some, Ok, refl, sym, ap, ◌∙◌, arith}
use Rattle.font.specs.Slant.{is_reading}
use Rattle.query.specs.declared.answer.Answer.{Answer}
use Rattle.query.specs.Call.{CallAnswer}
use Rattle.query.specs.Job.{Checked}
use Rattle.query.specs.Sizes.{most_bytes}
use Rattle.query.specs.Reader.{overlong, refused, number}
use Rattle.query.specs.Job.{read_sections, read_job, answer, check_job, checked_in}
use Rattle.query.specs.Call.{answer_in, without_offer, answer_call}
use Rattle.query.proofs.AnswerCases.{no_reading}
use Rattle.output.specs.Lines.{checked_under}
use Rattle.output.proofs.lines.checked_under.Goals as goal

module _ (s : List ℕ) (reading : ℕ) (none : is_reading reading ≡ false) where
  -- the refusal that the offer call answers
  result_is : {a : CallAnswer} → a ≡ answer_call s reading 0 0 → a.result ≡ cond (leb (length s) most_bytes) 25 17
  unfolding without_offer
  result_is is = ap (λ (x : CallAnswer). x.result) (is ∙ sym (no_reading s reading none 0 0))

  past_one : (b : Bool) → 1 < cond b 25 17
  past_one true = omega arith
  past_one false = omega arith

  -- the offer call refuses
  refuses : (a : Option Answer) → answer_in (Ok a) ≡ answer_call s reading 0 0 → ⊥
  unfolding answer_in without_offer
  refuses (Some a) is = omega (arith, result_is is, past_one (leb (length s) most_bytes))
  refuses None is = omega (arith, result_is is, past_one (leb (length s) most_bytes))

  checked_is : {n : ℕ} → n ≡ cond (leb (length s) most_bytes) 25 17
      → record { refusal = n; position = 0 } ≡ checked_under s reading
  unfolding checked_under check_job read_job answer number
  checked_is is = rw (is, none) (go (leb (length s) most_bytes))
    where
      go : (b : Bool)
          → ◌≡◌ {A = Checked} (record { refusal = cond b 25 17; position = 0 })
          (cond b (record { refusal = 25; position = 0 }) (answer (cond b (read_sections s 0) (refused overlong 0))))
      go true = refl
      go false = refl

pub returns-then-is_reading : goal.returns-then-is_reading
unfolding checked_under
returns-then-is_reading c = c.check.ensures.value ∙ sym (rw (sym c.is_reading.ensures ∙ c.if-is_reading.true))

pub unreachable-requires : goal.unreachable-requires
unreachable-requires c = refuses _ _ (sym c.is_reading.ensures ∙ c.if-is_reading.false) _ c.in-Ok.ensures

pub returns : goal.returns
unfolding checked_in answer_in without_offer
returns c =
    let none : is_reading c.args.reading ≡ false = sym c.is_reading.ensures ∙ c.if-is_reading.false in
    checked_is _ _ none (result_is _ _ none c.in-Err.ensures)
