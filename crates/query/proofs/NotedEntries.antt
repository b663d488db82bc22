-- Entries that are read one after another, while a table gets their positions: what is known after the first i of them.
use Prim.Native.Nat.{ℕ, suc, ◌+◌, ◌-◌, ◌≤◌, ◌<◌}
use mathlib.Core.Path.{◌≡◌, refl, sym, ap, ◌∙◌}
use mathlib.Core.List.{List, ◌∷◌}
use native.Mathlib.Omega.{arith}
use lib.ListN.{length, get_or, set, drop, length-set}
use lib.Seq.{get_or-drop, drop-drop, get_or-set_same, get_or-set_other}
use Rattle.matching.proofs.Ranks.{Tri, low, same, high, tri}
use Rattle.query.specs.Reader.{At}
use Rattle.query.specs.Reader.{Reader, got, done, many, ended}
use Rattle.query.specs.Positions.{LiesAt, NotesAt, NotedRun, KeptFrom}
use Rattle.query.proofs.Ends.{then_got, not_got, many_stops, many_goes, many_over, many_length}

module _ {A : Type 0} (r : Reader A) (s : List ℕ) (at count first : ℕ) where
  pub record Passed (table : List ℕ) (place i : ℕ) : Type 0 where
    pub few : i ≤ count
    pub rest : ended (many (count - i) r s place) ≡ ended (many count r s at)
    pub noted : (xs : List A) (q : ℕ) → many count r s at ≡ got xs q
        → (k : ℕ) (d : A) → k < length table → first + k < i → LiesAt r s (get_or table k 0) (get_or xs (first + k) d)
    pub left : (xs : List A) (q : ℕ) → many count r s at ≡ got xs q → many (count - i) r s place ≡ got (drop i xs) q

  pub started : (table : List ℕ) → Passed table at 0
  started table =
      let all : count - 0 ≡ count = omega arith in
      record {
        few = omega arith;
        rest = ap (λ (n : ℕ). ended (many n r s at)) all;
        noted = λ xs q e k d l m. absurd (omega arith);
        left = λ xs q e. ap (λ (n : ℕ). many n r s at) all ∙ e;
      }

  -- one entry of a list that is read whole
  record First (place i q : ℕ) (xs : List A) : Type 0 where
    head : A
    next : ℕ
    read : r s place ≡ got head next
    is : (d : A) → get_or xs i d ≡ head
    others : many (count - (i + 1)) r s next ≡ got (drop (i + 1) xs) q

  split : (place i next : ℕ) (xs rest : List A) (v : A) (q : ℕ) → r s place ≡ got v next → many (count - (i + 1)) r s next ≡ got rest q → drop i xs ≡ v ∷ rest → First place i q xs
  split place i next xs rest v q read others front =
      let none : i + 0 ≡ i = omega arith in
      record {
        head = v;
        next = next;
        read = read;
        is = λ d. ap (λ (n : ℕ). get_or xs n d) (sym none) ∙ sym (get_or-drop i xs 0 d) ∙ ap (λ (ys : List A). get_or ys 0 d) front;
        others = others ∙ ap (λ (ys : List A). got ys q) (sym (sym (drop-drop 1 i xs) ∙ ap (drop 1) front));
      }

  first_of : (place i : ℕ) (xs : List A) (q m : ℕ) → count - i ≡ suc m → m ≡ count - (i + 1) → many (count - i) r s place ≡ got (drop i xs) q → First place i q xs
  unfolding many done
  first_of place i xs q m more less e =
      let a = then_got r _ s place (drop i xs) q (rw more at e) in
      let b = then_got (many m r) _ s a.1 (drop i xs) q a.3 in
      let front : drop i xs ≡ a.0 ∷ b.0 = cc b.3 in
      let end : q ≡ b.1 = cc b.3 in
      split place i a.1 xs b.0 a.0 q a.2 (ap (λ (n : ℕ). many n r s a.1) (sym less) ∙ b.2 ∙ ap (got b.0) (sym end)) front

  -- where the next entry begins
  next_at : {a : At} {place i q : ℕ} {xs : List A} → a ≡ ended (r s place) → (f : First place i q xs) → a.at ≡ f.next
  unfolding ended
  next_at reads f = ap (λ (x : At). x.at) (reads ∙ ap ended f.read)

  module _ {table : List ℕ} {place i : ℕ} (p : Passed table place i) (more : i < count) {a : At} (reads : a ≡ ended (r s place)) where
    some : 0 < count - i
    some = omega arith

    -- a refusal is the answer
    pub stopped : (a.refusal ≡ 0 → ⊥) → (a ≡ ended (many count r s at)) × NotedRun r s at count first table
    stopped h =
        let end : a ≡ ended (many count r s at) = many_stops r (count - i) s place some reads h ∙ p.rest in
        (end, record { noted = λ xs q e. absurd (not_got end h e) })

    pub onward : {after : List ℕ} → a.refusal ≡ 0 → NotesAt first i place table after → Passed after a.at (i + 1)
    onward {after} z notes =
        let less : count - i - 1 ≡ count - (i + 1) = omega arith in
        record {
          few = omega arith;
          rest = ap (λ (n : ℕ). ended (many n r s a.at)) (sym less) ∙ many_goes r (count - i) s place some reads z ∙ p.rest;
          noted = λ xs q e k d l m. one xs q e k d l (tri (first + k) i) m;
          left = λ xs q e. rest_left q xs (here xs q e);
        }
      where
        here : (xs : List A) (q : ℕ) → many count r s at ≡ got xs q → First place i q xs
        here xs q e = first_of place i xs q (count - (i + 1)) (omega arith) refl (p.left xs q e)

        rest_left : (q : ℕ) (xs : List A) → First place i q xs → many (count - (i + 1)) r s a.at ≡ got (drop (i + 1) xs) q
        rest_left q xs f = rw (next_at reads f) f.others

        this : (k q : ℕ) (d : A) (xs : List A) → First place i q xs → first + k ≡ i → get_or after k 0 ≡ place → LiesAt r s (get_or after k 0) (get_or xs (first + k) d)
        this k q d xs f h e = rw (e, h, f.is d) (record { end = f.next; read = f.read })

        one : (xs : List A) (q : ℕ) → many count r s at ≡ got xs q → (k : ℕ) (d : A) → k < length after → Tri (first + k) i → first + k < i + 1
            → LiesAt r s (get_or after k 0) (get_or xs (first + k) d)
        one xs q e k d l (low n) m =
            rw (notes.others k (λ h. omega arith)) (p.noted xs q e k d (rw notes.long at l) n)
        one xs q e k d l (same h) m =
            this k q d xs (here xs q e) h (notes.noted k h l)
        one xs q e k d l (high n) m = absurd (omega arith)

  pub finished : {table : List ℕ} {place i : ℕ} → Passed table place i → count ≤ i
      → (record { refusal = 0; at = place } ≡ ended (many count r s at)) × NotedRun r s at count first table
  finished {table} {place} {i} p l = (
    many_over r (count - i) s place (omega arith) ∙ p.rest,
    record { noted = λ xs q e. record { lies = λ k d m n. p.noted xs q e k d m (omega (arith, many_length r count s at xs q e)) } },
  )

-- what stands past the noted entries is as it was
pub kept_on : {first i place from : ℕ} {start before after : List ℕ} → i < first + from → NotesAt first i place before after
    → KeptFrom from start before → KeptFrom from start after
kept_on l notes h = record { kept = λ k m. notes.others k (λ e. omega arith) ∙ h.kept k m }

-- the place that is written
pub place_noted : (table : List ℕ) (first i place : ℕ) → first ≤ i → i - first < length table → NotesAt first i place table (set table (i - first) place)
place_noted table first i place l m =
    record {
      long = length-set table (i - first) place;
      noted = λ k e n.
          let here : k ≡ i - first = omega arith in
          ap (λ (x : ℕ). get_or (set table (i - first) place) x 0) here ∙ get_or-set_same table (i - first) place 0 m;
      others = λ k h. get_or-set_other table (i - first) k place 0 (λ e. h (omega arith));
    }

-- and where the table has no room for it
pub not_noted : (table : List ℕ) (first i place : ℕ) → ((k : ℕ) → first + k ≡ i → k < length table → ⊥) → NotesAt first i place table table
not_noted table first i place h = record { long = refl; noted = λ k e l. absurd (h k e l); others = λ k n. refl }
