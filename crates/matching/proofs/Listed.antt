-- Laws of the places listed so far, and of the array that holds them.
use Prim.Native.Nat.{ℕ, suc, ◌+◌, ◌-◌, ◌≤◌, ◌<◌}
use mathlib.Core.Path.{◌≡◌, sym, ◌∙◌, ap}
use mathlib.Core.Bool.{Bool, true, false}
use mathlib.Core.List.{List, [], ◌∷◌, ◌++◌, append-nil, append_assoc}
use native.Mathlib.Omega.{arith}
use native.Mathlib.Numerals.{add-one}
use lib.ListN.{length, set, replicate, length-append}
use lib.Seq.{set-append_seam}
use Rattle.matching.specs.Below.{places_below}
use Rattle.matching.specs.Order.{padded}

module _ (p : ℕ → Bool) where
  pub placed : (n : ℕ) → p n ≡ true → places_below p (n + 1) ≡ places_below p n ++ (n ∷ [])
  unfolding places_below
  placed n e = rw (add-one, e)

  pub passed : (n : ℕ) → p n ≡ false → places_below p (n + 1) ≡ places_below p n
  unfolding places_below
  passed n e = rw (add-one, e) (append-nil (places_below p n))

-- one place more
pub padded_more : (xs : List ℕ) (v : ℕ) → length xs < 64 → set (padded xs) (length xs) v ≡ padded (xs ++ (v ∷ []))
unfolding padded
padded_more xs v h =
    ap (λ (k : ℕ). set (xs ++ replicate k 0) (length xs) v) room
    ∙ set-append_seam xs 0 (replicate (63 - length xs) 0) v
    ∙ sym (append_assoc xs (v ∷ []) (replicate (63 - length xs) 0))
    ∙ ap (λ (k : ℕ). (xs ++ (v ∷ [])) ++ replicate k 0) left
  where
    room : 64 - length xs ≡ suc (63 - length xs)
    room = omega arith

    left : 63 - length xs ≡ 64 - length (xs ++ (v ∷ []))
    left = omega (arith, length-append xs (v ∷ []))

pub longer : (xs : List ℕ) (v : ℕ) → length (xs ++ (v ∷ [])) ≡ length xs + 1
longer xs v = length-append xs (v ∷ [])

-- a turn of the loop: the place is listed, or passed
module _ (p : ℕ → Bool) (i : ℕ) (places : List ℕ) (found : ℕ) (held : places ≡ padded (places_below p i)) (many : found ≡ length (places_below p i)) (few : found ≤ i) (places' : List ℕ) (found' : ℕ) where
  abbrev Next : Type 0
  Next = (places' ≡ padded (places_below p (i + 1))) × (found' ≡ length (places_below p (i + 1))) × (found' ≤ i + 1)

  pub grown : i < 64 → p i ≡ true → places' ≡ set places found i → found' ≡ found + 1 → Next
  grown l e a b = (
    a ∙ (λ k. set (held k) (many k) i) ∙ padded_more (places_below p i) i (omega arith) ∙ ap padded (sym (placed p i e)),
    b ∙ (ap (λ (k : ℕ). k + 1) many ∙ sym (longer (places_below p i) i)) ∙ ap length (sym (placed p i e)),
    omega arith,
  )

  pub kept : p i ≡ false → places' ≡ places → found' ≡ found → Next
  kept e a b = (a ∙ held ∙ ap padded (sym (passed p i e)), b ∙ many ∙ ap length (sym (passed p i e)), omega arith)
