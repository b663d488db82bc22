-- What section 3 says of pairs: "then sets the default of the first axis with each given tag; later pairs win, unknown tags do nothing, and there is no clamping".
-- `axes` are a face's before, of which n count, and `after` the same after the pairs. `proofs/Pairs.antt` shows it of `set_default` and `set_defaults`.
use Rattle.std.specs.Prelude.{ℕ, ◌<◌, ◌≡◌, List, length, get_or, Float}
use Rattle.std.specs.Float.{nan}
use Rattle.font.specs.declared.font.AxisInfo.{AxisInfo}
use Rattle.font.specs.Overrides.{axis_of, first_axis, with_default}

-- one pair
pub record PairSet (axes : List AxisInfo) (n tag : ℕ) (value : Float) (after : List AxisInfo) : Type 0 where
  -- "sets the default of the first axis with each given tag .. there is no clamping": to the value itself, and nothing else of that axis
  pub first_set : first_axis axes n tag < n → axis_of after (first_axis axes n tag) ≡ with_default (axis_of axes (first_axis axes n tag)) value
  pub others_stay : (i : ℕ) → (i ≡ first_axis axes n tag → ⊥) → axis_of after i ≡ axis_of axes i
  -- "unknown tags do nothing"
  pub unknown : ((i : ℕ) → i < n → (axis_of axes i).tag ≡ tag → ⊥) → after ≡ axes

-- of the first k pairs, the pair j is the last with its tag
pub record LastPair (tags : List ℕ) (k j : ℕ) : Type 0 where
  pub given : j < k
  pub last : (i : ℕ) → j < i → i < k → get_or tags i 0 ≡ get_or tags j 0 → ⊥

-- the first k pairs, in order
pub record PairsSet (axes : List AxisInfo) (n : ℕ) (tags : List ℕ) (values : List Float) (k : ℕ) (after : List AxisInfo) : Type 0 where
  -- "later pairs win .. and there is no clamping"
  pub later_win : (j : ℕ) → LastPair tags k j → first_axis axes n (get_or tags j 0) < n
      → (axis_of after (first_axis axes n (get_or tags j 0))).default ≡ get_or values j nan
  -- an axis whose tag no pair has
  pub not_given : (i : ℕ) → i < n → ((j : ℕ) → j < k → get_or tags j 0 ≡ (axis_of axes i).tag → ⊥) → axis_of after i ≡ axis_of axes i
  -- an axis that is not the first of its tag
  pub not_first : (i : ℕ) → i < n → (first_axis axes n (axis_of axes i).tag ≡ i → ⊥) → axis_of after i ≡ axis_of axes i
  -- "unknown tags do nothing"
  pub unknown : ((j i : ℕ) → j < k → i < n → (axis_of axes i).tag ≡ get_or tags j 0 → ⊥) → after ≡ axes
  -- defaults alone are set
  pub tag_stays : (i : ℕ) → (axis_of after i).tag ≡ (axis_of axes i).tag
  pub min_stays : (i : ℕ) → (axis_of after i).min ≡ (axis_of axes i).min
  pub max_stays : (i : ℕ) → (axis_of after i).max ≡ (axis_of axes i).max
  pub count_stays : length after ≡ length axes
