-- Overrides that lie in a job one after another, on rows: what the loop over them keeps.
use Prim.Native.Nat.{ℕ, ◌+◌, ◌-◌, ◌≤◌, ◌<◌}
use mathlib.Core.Path.{◌≡◌, refl, ap, ◌∙◌}
use mathlib.Core.List.{List}
use native.Mathlib.Omega.{arith}
use lib.ListN.{length, get_or, set, length-set}
use Rattle.font.specs.declared.overrides.FontInfoOverride.{FontInfoOverride}
use Rattle.font.specs.Tables.{u16_at}
use Rattle.matching.specs.declared.rows.Row.{Row}
use Rattle.matching.specs.Rows.{no_row}
use Rattle.query.specs.Reader.{many}
use Rattle.query.specs.Entries.{Override, read_override}
use Rattle.query.specs.Positions.{LiesAt}
use Rattle.query.specs.Values.{given_at, override_at, override_end}
use Rattle.query.specs.CallTables.{row_overridden, rows_after, RowsOverridden}
use Rattle.query.proofs.OverridesLeft.{Left, all_left, one_passed, none_left}

-- the rows after the first i overrides that lie at a position, of faces that all have a row
pub record RowsLeft (s : List ℕ) (at count i place : ℕ) (before rows : List Row) : Type 0 where
  pub long : length rows ≡ length before
  pub of : (n : ℕ) (os : List Override) → n ≤ length before → LiesAt (many count (read_override n)) s at os → Left rows_after n s (count - i) place rows (rows_after os before)

module _ {s : List ℕ} {at count : ℕ} {before : List Row} where
  pub rows_first : RowsLeft s at count 0 at before before
  rows_first = record { long = refl; of = λ n os l lies. all_left rows_after n s count at os before lies }

  module _ {i place next face : ℕ} {rows : List Row} (more : i < count) (left : RowsLeft s at count i place before rows)
      (end : next ≡ override_end s place) (named : face ≡ u16_at s place) where
    -- the next one changes the row of the face that it names
    pub row_changed : {given : FontInfoOverride} {row : Row} → given ≡ given_at s place → row ≡ row_overridden given (get_or rows face no_row)
        → RowsLeft s at count (i + 1) next before (set rows face row)
    unfolding rows_after override_at
    row_changed {given} {row} is e =
        record {
          long = length-set rows face row ∙ left.long;
          of = λ n os l lies.
              one_passed rows_after n s count i place next more (left.of n os l lies) end
              (λ known rest. ap (rows_after rest) (λ k. set rows (named k) ((e ∙ (λ j. row_overridden (is j) (get_or rows (named j) no_row))) k)));
        }

    -- none names a face past the rows
    pub row_kept : length rows ≤ face → RowsLeft s at count (i + 1) next before rows
    unfolding override_at
    row_kept past =
        record {
          long = left.long;
          of = λ n os l lies. one_passed rows_after n s count i place next more (left.of n os l lies) end (λ known rest. absurd (omega (arith, left.long)));
        }

  pub rows_last : {i place : ℕ} {rows : List Row} → RowsLeft s at count i place before rows → count ≤ i → RowsOverridden s at count before rows
  unfolding rows_after
  rows_last {i} {place} h l = record { long = h.long; are = λ n os k lies. none_left rows_after n s count i place l (h.of n os k lies) }
