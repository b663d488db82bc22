-- Demand 3's first half of `match_font`: its answer for a family of two or more faces that is not refused.
use Rattle.std.proofs.Common.{Option, Some, None, Ok, IfSome}
use Prim.Native.Nat.{ℕ, ◌^◌, ◌≤◌, ◌<◌}
use mathlib.Core.Path.{◌≡◌, refl, sym, subst}
use mathlib.Core.Bool.{Bool, true, false, cond}
use mathlib.Core.List.{List}
use mathlib.Core.Logic.{◌⊎◌, inl, inr}
use native.Mathlib.Omega.{arith}
use native.Mathlib.Decide.{dec_lt}
use lib.Dec.{ltb}
use lib.Ieee.{Float, nan, inf, fin, binary32, to_bits, is_nan, mul, to_unsigned}
use lib.ListN.{get_or}
use borrow.Author.Tests.{lt-ltb, le-ltb, eq-eqb, ne_eqb, ltb-true, ltb-false}
use Rattle.font.specs.Single.{single, key_of_bits, order_key, whole_percent}
use Rattle.font.specs.declared.attributes.Angle.TheVariants.{Unstated, Degrees}
use Rattle.font.specs.declared.attributes.FontStyle.{FontStyle}
use Rattle.font.specs.declared.attributes.FontStyle.TheVariants.{Normal, Italic, Oblique}
use Rattle.font.specs.declared.attributes.Attributes.{Attributes}
use Rattle.font.specs.declared.font.FontInfo.{FontInfo}
use Rattle.matching.specs.Order.{Face, stands_before, choice, equal_places, laid_out, Demand}
use Rattle.matching.specs.Matching.{Matches, Choice, Place, Nothing, Refused, style_number, face_of, no_face, blank, family_of, request_of, faces_refusal, family_refusal, answered, match_font, Chosen, ChosenOf, equal_list, place_or, choice_in}
use Rattle.matching.proofs.Below.{truth}
use Rattle.matching.proofs.Standings.{pick}
use Rattle.matching.proofs.Before.{Bounded}
use Rattle.matching.proofs.Demand.{demand}

-- a whole percent, an order number and a style number are of 32 bits
percent_short : (x : Float) → whole_percent x < 2 ^ 32
unfolding whole_percent to_unsigned
percent_short x = go (mul binary32 x (single 100))
  where
    go : (y : Float) → to_unsigned 32 y < 2 ^ 32
    go nan = omega arith
    go (inf b) = pick (λ k. k < 2 ^ 32) b (omega arith) (omega arith)
    go (fin b m e) = pick (λ k. k < 2 ^ 32) b (omega arith) (omega arith)

key_short : (x : Float) → order_key x < 2 ^ 32
unfolding order_key key_of_bits
key_short x =
    pick (λ k. k < 2 ^ 32) (is_nan x) (omega arith)
    (go (truth (ltb (to_bits binary32 x) (2 ^ 31))))
  where
    go : (ltb (to_bits binary32 x) (2 ^ 31) ≡ true) ⊎ (ltb (to_bits binary32 x) (2 ^ 31) ≡ false) → key_of_bits (to_bits binary32 x) < 2 ^ 32
    go (inl t) = rw t (omega (arith, ltb-true (to_bits binary32 x) (2 ^ 31) t))
    go (inr f) = rw f (omega (arith, ltb-false (to_bits binary32 x) (2 ^ 31) f))

style_short : (s : FontStyle) → style_number s < 2 ^ 32
unfolding style_number
style_short Normal = omega arith
style_short Italic = omega arith
style_short (Oblique Unstated) = omega arith
style_short (Oblique (Degrees x)) = key_short x

module _ (fonts : List FontInfo) (n : ℕ) where
  pub bounded : n ≤ 64 → Bounded (family_of fonts n)
  unfolding family_of face_of blank
  bounded h = record {
    most = h;
    percents = λ i l. pick (λ (f : Face). f.percent < 2 ^ 32) (ltb i n) (percent_short (get_or fonts i no_face).attributes.width.ratio) (omega arith);
    styles = λ i l. pick (λ (f : Face). f.style < 2 ^ 32) (ltb i n) (style_short (get_or fonts i no_face).attributes.style) (omega arith);
  }

  pub weights_short : (i : ℕ) → i < (family_of fonts n).count → ((family_of fonts n).face i).weight < 2 ^ 32
  unfolding family_of face_of blank
  weights_short i l = pick (λ (f : Face). f.weight < 2 ^ 32) (ltb i n) (key_short (get_or fonts i no_face).attributes.weight.value) (omega arith)

  -- faces that are not refused as too many are at most 64
  pub faces_few : (faces_refusal fonts n ≡ 19 → ⊥) → n ≤ 64
  unfolding faces_refusal
  faces_few d = elim (dec_lt 64 n) [ yes l ↦ absurd (d (rw (lt-ltb 64 n l))) | no k ↦ omega arith ]

  module _ (a : Attributes) (on : Bool) where
    -- what is not refused has at most 64 faces
    pub few : family_refusal fonts n a ≡ 0 → n ≤ 64
    unfolding family_refusal faces_refusal
    few e = elim (dec_lt 64 n) [ yes l ↦ absurd (omega (arith, rw (lt-ltb 64 n l) at e)) | no d ↦ omega arith ]

    pub accepted : family_refusal fonts n a ≡ 0 → match_font fonts n a on ≡ answered n (choice (family_of fonts n) (request_of a on))
    unfolding match_font
    accepted e = rw (eq-eqb (family_refusal fonts n a) 0 e)

    pub refused : (family_refusal fonts n a ≡ 0 → ⊥) → match_font fonts n a on ≡ Refused (family_refusal fonts n a)
    unfolding match_font
    refused d = rw (ne_eqb (family_refusal fonts n a) 0 d)

    pub chosen : family_refusal fonts n a ≡ 0 → 2 ≤ n → Chosen (family_of fonts n) (request_of a on) (match_font fonts n a on)
    unfolding answered family_of
    chosen e two = subst (Chosen (family_of fonts n) (request_of a on)) (sym (accepted e)) (go (truth (ltb r n)))
      where
        r : ℕ
        r = choice (family_of fonts n) (request_of a on)

        law : Demand (family_of fonts n) (request_of a on) r
        law = demand (family_of fonts n) (request_of a on) (bounded (few e)) two weights_short

        Stands : ℕ → Type 0
        Stands p = (p < n) × ((j : ℕ) → j < n → (j ≡ p → ⊥) → stands_before (family_of fonts n) (request_of a on) p j ≡ true)

        go : (ltb r n ≡ true) ⊎ (ltb r n ≡ false) → Chosen (family_of fonts n) (request_of a on) (cond (ltb r n) (Place r) Nothing)
        go (inl t) = rw t (record {
          stands = λ p q. let k : r ≡ p = cc in subst Stands k (ltb-true r n t, law.stands (ltb-true r n t));
          none = λ q. absurd (let z : ◌≡◌ {A = ℕ} 0 1 = cc in omega arith);
          empty = λ q. absurd (omega (arith, ltb-true r n t, law.empty q));
        })
        go (inr f) = rw f (record {
          stands = λ p q. absurd (let z : ◌≡◌ {A = ℕ} 0 1 = cc in omega arith);
          none = λ q. law.none (omega (arith, ltb-false r n f, law.within));
          empty = λ q. refl;
        })

    -- so an answer that is the definition's has what demand 3 says
    pub answer : (r : Choice) → r ≡ match_font fonts n a on
        → (r ≡ match_font fonts n a on) × ChosenOf fonts n a on r
    answer r e = (e, λ z t. subst (Chosen (family_of fonts n) (request_of a on)) (sym e) (chosen z t))

-- the answer is a place of the family, or nothing
pub answers : (n k : ℕ) (r : Option ℕ) → place_or n r ≡ k → IfSome r (λ place. place < n) → choice_in (Ok r) ≡ answered n k
unfolding place_or choice_in answered
answers n k (Some place) e l = sym (rw (← e, lt-ltb place n l))
answers n k None e l = sym (rw (← e, le-ltb n n (omega arith)))

-- and its equal list is that of the place, or empty
pub listed : (fonts : List FontInfo) (n : ℕ) (r : Option ℕ)
    → ◌≡◌ {A = Matches} (record { refusal = 0; list = laid_out (equal_places (family_of fonts n) (place_or n r)) }) (equal_list fonts n (choice_in (Ok r)))
unfolding equal_list equal_places family_of place_or choice_in
listed fonts n (Some place) = refl
listed fonts n None = rw (le-ltb n n (omega arith))

-- "No face for an empty family; place 0 for one face."
pub none_of_none : (fonts : List FontInfo) (a : Attributes) (on : Bool) → family_refusal fonts 0 a ≡ 0 → match_font fonts 0 a on ≡ Nothing
unfolding answered choice family_of
none_of_none fonts a on e = accepted fonts 0 a on e

pub first_of_one : (fonts : List FontInfo) (a : Attributes) (on : Bool) → family_refusal fonts 1 a ≡ 0 → match_font fonts 1 a on ≡ Place 0
unfolding answered choice family_of
first_of_one fonts a on e = accepted fonts 1 a on e
