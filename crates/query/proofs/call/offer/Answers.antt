use mathlib.Core.Path.{refl}
use native.Mathlib.Omega.{arith}
use Rattle.std.proofs.lemmas.Result.{err_from_is_err_and}
use Rattle.font.specs.Refusals.{number}
use Rattle.font.proofs.Refusals.{not_zero}
use Rattle.query.specs.Call.{without_offer, answer_in, result_in}
use Rattle.query.proofs.AnswerCases.{wrong_length, answer_writable, record_written, nothing_written}
use Rattle.query.proofs.Demands.{demands}
use borrow.Author.Rules.{rules}
use Rattle.query.proofs.call.offer.Goals as goal

pub returns-then-out-ne-RECORD : goal.returns-then-out-ne-RECORD
unfolding result_in number
returns-then-out-ne-RECORD c = record { calls = wrong_length _ _ _ _ _ c.if-out-ne-RECORD.true; demands = demands _ (λ i. search rules) }

pub returns-in_err-offer_at : goal.returns-in_err-offer_at
unfolding answer_in result_in without_offer
returns-in_err-offer_at c =
    let p = err_from_is_err_and c.from_residual.result c.from_residual.ensures.1 in
    record {
      calls = rw (p.1, p.2) (nothing_written _ _ _ _ _ c.if-out-ne-RECORD.false c.in_err-offer_at.ensures (not_zero _));
      demands = demands _ (λ i. search rules);
    }

pub write_record-requires : goal.write_record-requires
unfolding answer_in
write_record-requires c =
    let fits = answer_writable _ (λ i. search rules) _ _ _ (rw c.in-Some.is at c.in_ok-offer_at.ensures) in
    (c.if-out-ne-RECORD.false, fits.0, fits.1)

pub returns-in-None : goal.returns-in-None
unfolding answer_in result_in without_offer
returns-in-None c =
    record {
      calls = nothing_written _ _ _ _ _ c.if-out-ne-RECORD.false (rw c.in-None.is at c.in_ok-offer_at.ensures) (λ z. omega arith);
      demands = demands _ (λ i. search rules);
    }

pub returns-in-Some : goal.returns-in-Some
unfolding answer_in result_in
returns-in-Some c =
    record {
      calls = record_written _ _ _ _ _ c.if-out-ne-RECORD.false (rw c.in-Some.is at c.in_ok-offer_at.ensures) refl c.write_record.ensures;
      demands = demands _ (λ i. search rules);
    }
