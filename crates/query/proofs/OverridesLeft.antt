-- What a loop over the overrides of an accepted job keeps: those that are left, and that they end it as all do. It needs no list of positions.
use Prim.Native.Nat.{ℕ, zero, suc, ◌+◌, ◌-◌, ◌≤◌, ◌<◌}
use mathlib.Core.Path.{◌≡◌, refl, sym, ap, ◌∙◌}
use mathlib.Core.List.{List, [], ◌∷◌}
use native.Mathlib.Omega.{arith}
use Rattle.font.specs.Tables.{u16_at}
use Rattle.query.specs.Reader.{Reader, done, many}
use Rattle.query.specs.Fields.{count, counted}
use Rattle.query.specs.Entries.{Override, read_override}
use Rattle.query.specs.Positions.{LiesAt}
use Rattle.query.specs.Values.{override_at, override_end}
use Rattle.query.proofs.Ends.{then_read, same_got}
use Rattle.query.proofs.Leaves.{count_read}
use Rattle.query.proofs.FacesAt.{Next, override_at_lem, next_override}

-- the entries of a section lie after its count
pub counted_lies : {A : Type 0} (limit : ℕ) (r : Reader A) (s : List ℕ) (p : ℕ) (xs : List A) → LiesAt (counted limit r) s p xs
    → LiesAt (many (u16_at s p) r) s (p + 2) xs
unfolding counted
counted_lies limit r s p xs lies =
    record {
      end = lies.end;
      read = then_read (count limit) _ (p + 2) (count_read limit s p) refl lies.read;
    }

-- `after` gives what some overrides make of a value; those left make `end` of what was made so far
pub record Left {B : Type 0} (after : List Override → B → B) (n : ℕ) (s : List ℕ) (m place : ℕ) (made end : B) : Type 0 where
  pub rest : List Override
  pub lies : LiesAt (many m (read_override n)) s place rest
  pub is : after rest made ≡ end

module _ {B : Type 0} (after : List Override → B → B) (n : ℕ) (s : List ℕ) (count : ℕ) where
  pub all_left : (at : ℕ) (os : List Override) (made : B) → LiesAt (many count (read_override n)) s at os
      → Left after n s (count - 0) at made (after os made)
  all_left at os made lies =
      let all : count - 0 ≡ count = omega arith in
      record { rest = os; lies = rw all lies; is = refl }

  pub one_passed : (i place next : ℕ) {made more end : B} → i < count → Left after n s (count - i) place made end → next ≡ override_end s place
      → ((override_at s place).face < n → (rest : List Override) → after rest more ≡ after (override_at s place ∷ rest) made)
      → Left after n s (count - (i + 1)) next more end
  one_passed i place next {made} {more} {end} l left here step =
      let one : count - i ≡ suc (count - (i + 1)) = omega arith in
      go (next_override n (count - (i + 1)) s place left.rest (rw one at left.lies))
    where
      go : Next (read_override n) (count - (i + 1)) s place (override_at s place) (override_end s place) left.rest → Left after n s (count - (i + 1)) next more end
      go others =
          record {
            rest = others.rest;
            lies = rw here others.left;
            is = step (override_at_lem n s place _ _ others.read).2 others.rest ∙ ap (λ (os : List Override). after os made) (sym others.are) ∙ left.is;
          }

  pub none_left : (i place : ℕ) {made end : B} → count ≤ i → Left after n s (count - i) place made end → after [] made ≡ end
  unfolding many done
  none_left i place {made} l left =
      let none : count - i ≡ zero = omega arith in
      let lies : LiesAt (many zero (read_override n)) s place left.rest = rw none at left.lies in
      ap (λ (os : List Override). after os made) (sym (same_got {a = []} lies.read).0) ∙ left.is
