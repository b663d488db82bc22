-- What the loops of the calls on faces by value share: the rows written so far, and the refusal of the faces so far.
use Prim.Native.Nat.{ℕ, ◌+◌, ◌≤◌, ◌<◌}
use mathlib.Core.Path.{◌≡◌, refl, sym, ◌∙◌, ap, subst}
use mathlib.Core.Bool.{Bool, true, false, cond, ◌||◌}
use mathlib.Core.List.{List, []}
use native.Mathlib.Omega.{arith}
use lib.Dec.{eqb}
use lib.ListN.{length, get_or, set}
use borrow.Author.Tests.{lt-ltb, le-ltb, ne_eqb}
use Rattle.font.specs.Attributes.{accepted_attributes}
use Rattle.font.specs.Overrides.{face_refusal}
use Rattle.font.specs.Refusals.{number}
use Rattle.font.specs.declared.refusal.Refusal.{Refusal}
use Rattle.font.specs.declared.attributes.Attributes.{Attributes}
use Rattle.font.specs.declared.font.FontInfo.{FontInfo}
use Rattle.matching.specs.declared.order.Request.{Request}
use Rattle.matching.specs.Below.{some}
use Rattle.matching.specs.Order.{choice, equal_places}
use Rattle.matching.specs.Matching.{no_face, family_of, refused_as, faces_refusal, family_refusal, default_place}
use Rattle.matching.specs.declared.rows.Row.{Row}
use Rattle.matching.specs.Rows.{no_row, number_at, family_of_rows, Placed, face_row, either_refusal, TakenRows}
use Rattle.matching.proofs.Below.{some_next}
use Rattle.matching.proofs.Fill.{Filled, filled_none, filled_more}
use Rattle.matching.proofs.Gathered as gathered
use Rattle.font.proofs.Refusals.{some_number}

abbrev refused : List FontInfo → ℕ → ℕ → Bool
refused fonts number i = eqb (face_refusal (get_or fonts i no_face)) number

-- by whether an earlier face is refused as 19 and as 26, and whether this one is
either_step : (a b p q : Bool)
    → ◌≡◌ {A = ℕ} (cond p 19 (cond (eqb (cond a 19 (cond b 26 0)) 19) 19 (cond q 26 (cond a 19 (cond b 26 0))))) (cond (a || p) 19 (cond (b || q) 26 0))
either_step true b true q = refl
either_step true b false q = refl
either_step false b true q = refl
either_step false true false true = refl
either_step false true false false = refl
either_step false false false true = refl
either_step false false false false = refl

-- the refusal of the faces below i
abbrev pub refusal_below : List FontInfo → ℕ → ℕ
refusal_below fonts i = cond (some (refused fonts 19) i) 19 (cond (some (refused fonts 26) i) 26 0)

-- each of at most 64 places has its own row
pub each_own : (n : ℕ) (rows : List Row) → length rows ≡ 64 → n ≤ 64 → Placed rows [] n
unfolding number_at
each_own n rows e h = record { few = h; each = λ i l. record { below = omega arith; number = λ d. absurd (d refl); known = omega (arith, e) } }

module _ (fonts : List FontInfo) where
  pub refusal_none : 0 ≡ refusal_below fonts 0
  unfolding some
  refusal_none = refl

  pub refusal_more : (i : ℕ) {before next : ℕ} → before ≡ refusal_below fonts i → next ≡ either_refusal before (face_refusal (get_or fonts i no_face))
      → next ≡ refusal_below fonts (i + 1)
  unfolding either_refusal
  refusal_more i e f =
      f
      ∙ ap (λ (b : ℕ). either_refusal b (face_refusal (get_or fonts i no_face))) e
      ∙ either_step (some (refused fonts 19) i) (some (refused fonts 26) i) (refused fonts 19 i) (refused fonts 26 i)
      ∙ sym (λ k. cond {A = ℕ} (some_next (refused fonts 19) i k) 19 (cond {A = ℕ} (some_next (refused fonts 26) i k) 26 0))

  pub refusal_all : (n : ℕ) → n ≤ 64 → refusal_below fonts n ≡ faces_refusal fonts n
  unfolding faces_refusal refused_as
  refusal_all n h = sym (rw (le-ltb 64 n h))

  -- over 64 faces are refused, whatever the request
  pub faces_over : (n : ℕ) → 64 < n → faces_refusal fonts n ≡ 19
  unfolding faces_refusal
  faces_over n h = rw (lt-ltb 64 n h)

  pub family_over : (n : ℕ) (a : Attributes) → 64 < n → family_refusal fonts n a ≡ 19
  unfolding family_refusal
  family_over n a h = rw (faces_over n h)

  pub record Taken (i : ℕ) (rows : List Row) (refusal : ℕ) : Type 0 where
    pub filled : Filled no_row (λ j. face_row (get_or fonts j no_face)) rows i
    pub refuses : refusal ≡ refusal_below fonts i

  pub taken_none : (rows : List Row) → length rows ≡ 64 → Taken 0 rows 0
  taken_none rows e = record { filled = filled_none no_row (λ j. face_row (get_or fonts j no_face)) rows e; refuses = refusal_none }

  -- a face more
  pub taken_more : (i : ℕ) {rows after : List Row} {before next : ℕ} → Taken i rows before → i < 64
      → next ≡ either_refusal before (face_refusal (get_or fonts i no_face))
      → after ≡ set rows i (face_row (get_or fonts i no_face))
      → Taken (i + 1) after next
  taken_more i {rows} t l f e = record {
    filled =
        subst (λ (xs : List Row). Filled no_row (λ j. face_row (get_or fonts j no_face)) xs (i + 1)) (sym e)
        (filled_more no_row (λ j. face_row (get_or fonts j no_face)) rows i (face_row (get_or fonts i no_face)) t.filled l refl);
    refuses = refusal_more i t.refuses f;
  }

  -- when every face is taken
  pub taken_refusal : (i n : ℕ) {rows : List Row} {refusal : ℕ} → Taken i rows refusal → i ≡ n → n ≤ 64 → refusal ≡ faces_refusal fonts n
  taken_refusal i n t e h = t.refuses ∙ ap (refusal_below fonts) e ∙ refusal_all n h

  pub taken_rows : (i n : ℕ) {rows : List Row} {refusal : ℕ} → Taken i rows refusal → i ≡ n → n ≤ 64 → TakenRows fonts n rows
  taken_rows i n t e h = record { long = t.filled.long; few = h; each = λ j l. t.filled.each j (omega (arith, e)) }

  -- what the rows are to the calls that look at them
  pub record Whole (n : ℕ) (rows : List Row) : Type 0 where
    pub placed : Placed rows [] n
    pub choice_of : (request : Request) → choice (family_of_rows rows [] n) request ≡ choice (family_of fonts n) request
    pub equal_of : (chosen : ℕ) → equal_places (family_of_rows rows [] n) chosen ≡ equal_places (family_of fonts n) chosen
    pub default_of : default_place (family_of_rows rows [] n) ≡ default_place (family_of fonts n)

  pub whole : (n : ℕ) (rows : List Row) → TakenRows fonts n rows → Whole n rows
  whole n rows t = record {
    placed = each_own n rows t.long t.few;
    choice_of = gathered.choice_of fonts n rows t.each;
    equal_of = gathered.equal_of fonts n rows t.each;
    default_of = gathered.default_of fonts n rows t.each;
  }

  -- so when every face is taken
  pub taken_all : (i n : ℕ) (rows : List Row) (refusal : ℕ) → Taken i rows refusal → i ≡ n → n ≤ 64 → (refusal ≡ faces_refusal fonts n) × Whole n rows
  taken_all i n rows refusal t e h = (taken_refusal i n t e h, whole n rows (taken_rows i n t e h))

  -- the refusal of the faces and of a request, as `take_family` gives it
  pub family_refuses : (n : ℕ) (a : Attributes) {faces : ℕ} → faces ≡ faces_refusal fonts n
      → cond (eqb faces 0) (cond (accepted_attributes a) 0 26) faces ≡ family_refusal fonts n a
  unfolding family_refusal
  family_refuses n a e = ap (λ (f : ℕ). cond {A = ℕ} (eqb f 0) (cond {A = ℕ} (accepted_attributes a) 0 26) f) e

  -- where the faces are refused, so is the family
  pub faces_err : (n : ℕ) (a : Attributes) (why : Refusal) → number why ≡ faces_refusal fonts n → number why ≡ family_refusal fonts n a
  faces_err n a why e =
      let some : number why ≡ 0 → ⊥ = λ z. omega (arith, some_number why) in
      sym (rw (ne_eqb (number why) 0 some)) ∙ family_refuses n a e
