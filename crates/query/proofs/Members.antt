-- The bytes of a family's face numbers: the number of each place, and that each has a row.
use Prim.Native.Nat.{ℕ, ◌+◌, ◌-◌, ◌*◌, ◌≤◌, ◌<◌}
use mathlib.Core.Path.{◌≡◌, sym, ◌∙◌, ap}
use mathlib.Core.List.{List}
use native.Mathlib.Omega.{arith}
use native.Mathlib.Nat.{add-sub_cancel_left}
use lib.ListN.{length, get_or, take, drop, length-take, length-drop}
use lib.Seq.{get_or-take, get_or-drop}
use borrow.Author.Tests.{ne_eqb}
use Rattle.font.specs.Tables.{u16_at}
use Rattle.font.proofs.Fields.{in16}
use Rattle.matching.specs.declared.rows.Row.{Row}
use Rattle.matching.specs.Rows.{number_at, Placed}
use Rattle.query.specs.Listed.{MembersKnown, members_at}

module _ (s : List ℕ) (p : ℕ) (whole : p + 2 + 2 * u16_at s p ≤ length s) where
  pub members_long : length (members_at s p) ≡ 2 * u16_at s p
  unfolding members_at
  members_long = omega (arith, length-take (2 * u16_at s p) (drop (p + 2) s), length-drop (p + 2) s)

  byte_of : (k : ℕ) → k < 2 * u16_at s p → get_or (members_at s p) k 0 ≡ get_or s (p + 2 + k) 0
  unfolding members_at
  byte_of k l = get_or-take (2 * u16_at s p) (drop (p + 2) s) k 0 l ∙ get_or-drop (p + 2) s k 0

  pub number_of : (i : ℕ) → i < u16_at s p → number_at (members_at s p) i ≡ u16_at s (p + 2 + 2 * i)
  unfolding number_at
  number_of i l =
      rw (ne_eqb (length (members_at s p)) 0 (λ e. omega (arith, members_long)))
      (sym (in16 (members_at s p) (2 * i) (omega (arith, members_long)))
      ∙ (λ k. byte_of (2 * i) (omega arith) k * 256 + second k)
      ∙ in16 s (p + 2 + 2 * i) (omega arith))
    where
      second : get_or (members_at s p) (2 * i + 1) 0 ≡ get_or s (p + 2 + 2 * i + 1) 0
      second = byte_of (2 * i + 1) (omega arith) ∙ ap (λ (k : ℕ). get_or s k 0) (omega arith)

-- the part of the job that holds them
pub members_part : (s : List ℕ) (p n : ℕ) → n ≡ u16_at s p → take (p + 2 + 2 * n - (p + 2)) (drop (p + 2) s) ≡ members_at s p
unfolding members_at
members_part s p n e = rw (e, add-sub_cancel_left (p + 2) (2 * u16_at s p))

pub places_there : (s : List ℕ) (p : ℕ) (rows : List Row) → MembersKnown s p (length rows) → (u16_at s p ≡ 0 → ⊥) → Placed rows (members_at s p) (u16_at s p)
places_there s p rows known some =
    let whole = known.whole some in
    record {
      few = known.few;
      each = λ i l.
          record {
            below = omega (arith, known.few);
            number = λ h. omega (arith, members_long s p whole);
            known = omega (arith, number_of s p whole i l, known.known i l);
          };
    }
