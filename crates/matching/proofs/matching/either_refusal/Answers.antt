use Rattle.std.proofs.Common.{arith, ◌≡◌, ℕ, ◌⊎◌, inl, inr, Bool, true, false, Result, Ok, Err, cond, eqb, leb, ◌&&◌, refl, sym, ◌∙◌, ap}
use Rattle.std.specs.Result.{result_and}
use borrow.Author.Tests.{eqb-true}
use Rattle.font.specs.Refusals.{refusal_in, number}
use Rattle.font.specs.Overrides.{refusal_of, accepted_face, face_refusal}
use Rattle.font.specs.declared.font.FontInfo.{FontInfo}
use Rattle.font.specs.declared.refusal.Refusal.{Refusal}
use Rattle.matching.specs.Rows.{either_refusal}
use Rattle.font.proofs.Refusals.{some_number}
use Rattle.matching.proofs.Refusals.{over_test}
use Rattle.matching.proofs.matching.either_refusal.Goals as goal

kept : (n f : ℕ) → eqb n 19 ≡ true → n ≡ either_refusal n f
unfolding either_refusal
kept n f e = eqb-true n 19 e ∙ sym (rw e (go (eqb f 19)))
  where
    go : (b : Bool) → ◌≡◌ {A = ℕ} (cond b 19 19) 19
    go true = refl
    go false = refl

-- a face is not refused, or refused as 26 or 19
numbers : (f : FontInfo) → (face_refusal f ≡ 0) ⊎ ((face_refusal f ≡ 26) ⊎ (face_refusal f ≡ 19))
unfolding face_refusal refusal_of
numbers f = go (leb f.axis_count 16) (accepted_face f && true) (face_refusal f) refl
  where
    go : (a b : Bool) (n : ℕ) → n ≡ cond a (cond b 0 26) 19 → (n ≡ 0) ⊎ ((n ≡ 26) ⊎ (n ≡ 19))
    go true true n e = inl e
    go true false n e = inr (inl e)
    go false b n e = inr (inr e)

next : (f : FontInfo) (found before : Result (Unit {0}) Refusal) → refusal_in found ≡ face_refusal f → eqb (refusal_in before) 19 ≡ false
    → refusal_in (result_and found before) ≡ either_refusal (refusal_in before) (face_refusal f)
unfolding either_refusal refusal_in
next f (Ok x) before e d = sym (rw (sym e, d))
next f (Err why) before e d = e ∙ go (face_refusal f) (sym e) (numbers f)
  where
    go : (n : ℕ) → n ≡ number why → (n ≡ 0) ⊎ ((n ≡ 26) ⊎ (n ≡ 19)) → n ≡ either_refusal (refusal_in before) n
    go n q (inl z) = absurd (omega (arith, some_number why))
    go n q (inr (inl z)) = rw (z, d)
    go n q (inr (inr z)) = rw z

pub returns-then-eq : goal.returns-then-eq
returns-then-eq c = kept _ _ (over_test _ c.args.before refl c.if-eq.ensures)

pub returns-else-eq : goal.returns-else-eq
returns-else-eq c = ap refusal_in c.and.ensures ∙ next c.args.font c.face_refusal-found.result c.args.before c.face_refusal-found.ensures (over_test _ c.args.before refl c.if-eq.ensures)
