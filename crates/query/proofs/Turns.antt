-- Families in turn: what follows the answer of one family, and of the list of families.
use Rattle.std.specs.Prelude.{Option, None, Some, Result, Ok, Err}
use Rattle.std.specs.Result.{result_ok}
use Prim.Native.Nat.{ℕ, ◌+◌, ◌*◌, ◌≤◌, ◌<◌}
use mathlib.Core.Path.{◌≡◌, refl, sym, ◌∙◌, ap}
use mathlib.Core.List.{List, [], ◌∷◌, ◌++◌, map, append_assoc}
use native.Mathlib.Numerals.{add-one}
use lib.ListN.{length, get_or, drop, drop_of_length-le}
use lib.Seq.{drop-cons}
use borrow.Author.Tests.{lt-ltb, le-ltb}
use Rattle.font.specs.Tables.{u16_at}
use Rattle.font.proofs.Tabulated as Tabulated
use Rattle.query.specs.declared.answer.Offer.{Offer}
use Rattle.query.specs.Values.{numbers_at, list_at}
use Rattle.query.specs.Offers.{pick, offer_of, in_turn, offers, offer_at}
use Rattle.query.proofs.Picked.{pick_then, pick_map, pick_append, pick_take}

-- ---- a list as it lies in a job

pub list_length : (s : List ℕ) (at : ℕ) → length (list_at s at) ≡ get_or s at 0
unfolding list_at numbers_at
list_length s at = Tabulated.length_is (λ i. u16_at s (at + 1 + 2 * i)) (get_or s at 0)

pub list_number : (s : List ℕ) (at k : ℕ) → k < get_or s at 0 → get_or (list_at s at) k 0 ≡ u16_at s (at + 1 + 2 * k)
unfolding list_at numbers_at
list_number s at k l = Tabulated.element (λ i. u16_at s (at + 1 + 2 * i)) (get_or s at 0) k 0 l

-- ---- in turn

-- Each family's offers are the places that `family` gives of its number.
module _ (family : ℕ → List ℕ) where
  abbrev pub places : ℕ → ℕ → (Result ℕ ℕ)
  places f = pick Ok Err (family f)

  abbrev pub turns : List ℕ → ℕ → (Result Offer ℕ)
  turns numbers = pick Ok Err (in_turn family numbers)

  -- what follows the answer of the family of number f, with the others after it
  abbrev pub after_one : ℕ → List ℕ → (Result ℕ ℕ) → (Result Offer ℕ)
  after_one f rest (Ok p) = Ok (offer_of f p)
  after_one f rest (Err k) = turns rest k

  one : (f : ℕ) (rest : List ℕ) (n : ℕ) → after_one f rest (places f n) ≡ turns (f ∷ rest) n
  unfolding in_turn
  one f rest n =
      pick_then (after_one f rest) Ok Err (family f) n
      ∙ sym (pick_map Ok (turns rest) (offer_of f) (family f) n)
      ∙ sym (pick_append Ok Err (map (offer_of f) (family f)) (in_turn family rest) n)

  -- the number at place k of a list, with those after it
  pub one_more : (numbers : List ℕ) (k f n : ℕ) (r : (Result ℕ ℕ)) → k < length numbers → f ≡ get_or numbers k 0 → r ≡ places f n
      → turns (drop k numbers) n ≡ after_one f (drop (k + 1) numbers) r
  one_more numbers k f n r l e h =
      ap (λ s. turns s n) (drop-cons numbers k 0 l ∙ rw (e, add-one k) refl)
      ∙ sym (one f (drop (k + 1) numbers) n)
      ∙ ap (after_one f (drop (k + 1) numbers)) (sym h)

  -- none is left
  pub no_more : (numbers : List ℕ) (k n : ℕ) → length numbers ≤ k → turns (drop k numbers) n ≡ Err n
  unfolding in_turn pick
  no_more numbers k n l = ap (λ s. turns s n) (drop_of_length-le numbers l)

  joined : (named fallbacks : List ℕ) → in_turn family (named ++ fallbacks) ≡ in_turn family named ++ in_turn family fallbacks
  unfolding in_turn
  joined [] fallbacks = refl
  joined (f ∷ fs) fallbacks =
      ap (λ s. map (offer_of f) (family f) ++ s) (joined fs fallbacks)
      ∙ sym (append_assoc (map (offer_of f) (family f)) (in_turn family fs) (in_turn family fallbacks))

  -- what follows the answer of the families
  abbrev pub after_named : List ℕ → (Result Offer ℕ) → (Option Offer)
  after_named fallbacks (Ok o) = Some o
  after_named fallbacks (Err k) = result_ok (turns fallbacks k)

  pub cut_off : (most : ℕ) (named fallbacks : List ℕ) (n : ℕ) → most ≤ n → None ≡ offer_at (offers family most named fallbacks) n
  unfolding offers offer_at
  cut_off most named fallbacks n l =
      sym (pick_take Some None most (in_turn family (named ++ fallbacks)) n ∙ rw (le-ltb n most l) refl)

  pub not_cut : (most : ℕ) (named fallbacks : List ℕ) (n : ℕ) → n < most
      → after_named fallbacks (turns named n) ≡ offer_at (offers family most named fallbacks) n
  unfolding offers offer_at
  not_cut most named fallbacks n l =
      pick_then (after_named fallbacks) Ok Err (in_turn family named) n
      ∙ ap (λ (past : ℕ → (Option Offer)). pick Some past (in_turn family named) n)
      (λ i k. pick_then result_ok Ok Err (in_turn family fallbacks) k i)
      ∙ sym (pick_append Some (λ k. None) (in_turn family named) (in_turn family fallbacks) n)
      ∙ ap (λ s. pick Some (λ k. None) s n) (sym (joined named fallbacks))
      ∙ sym (pick_take Some None most (in_turn family (named ++ fallbacks)) n ∙ rw (lt-ltb n most l) refl)
