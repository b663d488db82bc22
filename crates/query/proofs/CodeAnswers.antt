-- The code's readings, refusals and answers, by their numbers.
use Rattle.std.specs.Prelude.{Option, None, Some, Result, Ok, Err, MatchResult}
use Rattle.std.specs.Option.{is_some}
use Rattle.std.specs.Result.{is_err}
use Prim.Native.Nat.{ℕ, ◌≤◌, ◌<◌}
use mathlib.Core.Path.{◌≡◌, refl, sym, ap, ◌∙◌}
use mathlib.Core.Bool.{Bool, true, false, ◌||◌, cond}
use mathlib.Core.List.{List}
use native.Mathlib.Omega.{arith}
use lib.Dec.{leb, eqb}
use lib.ListN.{length}
use borrow.Author.Tests.{le-leb, lt-leb, eqb-true, ne_eqb}
use Rattle.font.specs.declared.attributes.Attributes.{Attributes}
use Rattle.font.specs.declared.charmap.CharmapIndex.{CharmapIndex}
use Rattle.font.specs.declared.refusal.Refusal.{Refusal}
use Rattle.font.specs.declared.refusal.Refusal.TheVariants.{Overlong, Unknown}
use Rattle.font.specs.declared.slant.Reading.{Reading}
use Rattle.font.specs.declared.slant.Reading.TheVariants.{AsStated, Opposite}
use Rattle.font.specs.Refusals.{number}
use Rattle.font.specs.Slant.{is_reading, reading_number, reading_of}
use Rattle.matching.specs.Synthesis.{SynthesisAnswer}
use Rattle.matching.specs.declared.synthesis.Synthesis.{Synthesis}
use Rattle.matching.specs.declared.synthesis.Varies.{Varies}
use Rattle.matching.specs.Synthesis.{unvaried, synthesis_in, synthesized}
use Rattle.font.proofs.Refusals.{not_zero}
use Rattle.query.specs.declared.answer.Offer.{Offer}
use Rattle.query.specs.declared.answer.Answer.{Answer}
use Rattle.query.specs.Sizes.{most_bytes}
use Rattle.query.specs.Call.{without_offer, answer_in, with_synthesis, reading_over}
use Rattle.query.specs.Cursor.{is_offer}
use Rattle.query.proofs.AnswerCases.{never_refused}

-- an answer with a synthesis that was made
module _ (reading : ℕ) (own : Attributes) (v : Varies) (a : Attributes) where
  pub made_answer : (o : Offer) (index : CharmapIndex) (s : Synthesis) → synthesis_in (Ok s) ≡ synthesized reading own v a
      → answer_in (Ok (Some (record { offer = o; synthesis = s; charmap_index = index }))) ≡ with_synthesis o (synthesized reading own v a) index
  unfolding synthesis_in answer_in with_synthesis
  made_answer o index s made =
      let some : (synthesized reading own v a).refusal ≡ 0 = never_refused reading own v a in
      rw (ne_eqb (synthesized reading own v a).refusal 29 (λ e. omega arith))
      (ap (λ (x : SynthesisAnswer). record { result = 0; offer = o; synthesis = x; charmap_index = index }) made)

  -- none is refused
  pub always_made : (why : Refusal) → synthesis_in (Err why) ≡ synthesized reading own v a → ⊥
  unfolding synthesis_in unvaried
  always_made why e = not_zero why (ap (λ (x : SynthesisAnswer). x.refusal) e ∙ never_refused reading own v a)

-- ---- the reading of a call

read : Bool → Bool → Result Reading Refusal
read a b = cond a (Ok AsStated) (cond b (Ok Opposite) (Err Unknown))

over : Bool → Bool → Bool → Result Reading Refusal
over a b short = cond (a || b) (read a b) (cond short (Err Unknown) (Err Overlong))

module _ (s : List ℕ) (n : ℕ) where
  -- what was read, unless it is refused in a job that is too long
  pub reading_kept : (r : Result Reading Refusal) → r ≡ reading_of n → (is_err r ≡ true → length s ≤ most_bytes) → r ≡ reading_over s n
  unfolding reading_of reading_over is_reading read over
  reading_kept (Ok x) e short = e ∙ go (eqb n 0) (eqb n 1) (sym e)
    where
      go : (a b : Bool) → read a b ≡ Ok x → read a b ≡ over a b (leb (length s) most_bytes)
      go true b h = refl
      go false true h = refl
      go false false h = cc
  reading_kept (Err why) e short = e ∙ go (eqb n 0) (eqb n 1) ∙ ap (over (eqb n 0) (eqb n 1)) (sym (le-leb (length s) most_bytes (short refl)))
    where
      go : (a b : Bool) → read a b ≡ over a b true
      go true b = refl
      go false true = refl
      go false false = refl

  pub reading_long : (r : Result Reading Refusal) → r ≡ reading_of n → is_err r ≡ true → most_bytes < length s → Err Overlong ≡ reading_over s n
  unfolding reading_of reading_over is_reading read over
  reading_long (Ok x) e none l = cc
  reading_long (Err why) e none l = go (eqb n 0) (eqb n 1) (sym e) ∙ ap (over (eqb n 0) (eqb n 1)) (sym (lt-leb (length s) most_bytes l))
    where
      go : (a b : Bool) → read a b ≡ Err why → Err Overlong ≡ over a b false
      go true b h = cc
      go false true h = cc
      go false false h = refl

  pub reading_refused : (why : Refusal) → Err why ≡ reading_over s n → (is_reading n ≡ false) × (number why ≡ cond (leb (length s) most_bytes) 25 17)
  unfolding reading_of reading_over is_reading number read over
  reading_refused why e = go (eqb n 0) (eqb n 1) (leb (length s) most_bytes) e
    where
      go : (a b l : Bool) → Err why ≡ over a b l → (a || b ≡ false) × (number why ≡ cond l 25 17)
      go true b l h = cc
      go false true l h = cc
      go false false true h = (refl, (let same : why ≡ Unknown = cc in ap number same))
      go false false false h = (refl, (let same : why ≡ Overlong = cc in ap number same))

  pub reading_is : (r : Reading) → Ok r ≡ reading_over s n → reading_number r ≡ n
  unfolding reading_of reading_over is_reading reading_number read over
  reading_is r e = go (eqb n 0) (eqb n 1) (leb (length s) most_bytes) refl refl e
    where
      go : (a b l : Bool) → eqb n 0 ≡ a → eqb n 1 ≡ b → Ok r ≡ over a b l → reading_number r ≡ n
      go true b l x y h = (let same : r ≡ AsStated = cc in ap reading_number same) ∙ sym (eqb-true n 0 x)
      go false true l x y h = (let same : r ≡ Opposite = cc in ap reading_number same) ∙ sym (eqb-true n 1 y)
      go false false true x y h = cc
      go false false false x y h = cc

-- an offer was found
pub found_is : (r : Result (Option Answer) Refusal) (b : Bool) → MatchResult r (λ found. b ≡ is_some found) (λ _. b ≡ false) → b ≡ is_offer (answer_in r)
unfolding answer_in without_offer is_offer
found_is (Ok (Some a)) b e = e
found_is (Ok None) b e = e
found_is (Err why) b e = e ∙ sym (ne_eqb (number why) 0 (not_zero why))
