-- The pairs of an override do what section 3 says of them (`specs/Pairs.antt`): one pair, all pairs, and those of `apply_override`. Assumes nothing.
use Prim.Native.Nat.{ℕ, zero, suc, ◌≤◌, ◌<◌}
use mathlib.Core.Path.{◌≡◌, refl, sym, ap, ◌∙◌}
use mathlib.Core.Bool.{Bool, true, false, cond}
use mathlib.Core.List.{List}
use mathlib.Core.Logic.{⊎_elim}
use native.Mathlib.Omega.{arith}
use lib.Dec.{ltb, eqb}
use lib.Ieee.{Float, nan}
use lib.ListN.{length, get_or, set, length-set}
use lib.Seq.{get_or-set_same, get_or-set_other}
use borrow.Author.Tests.{lt-ltb, le-ltb, eqb-true, ne_eqb, eq-eqb}
use Rattle.font.specs.declared.font.AxisInfo.{AxisInfo}
use Rattle.font.specs.declared.font.FontInfo.{FontInfo}
use Rattle.font.specs.declared.overrides.FontInfoOverride.{FontInfoOverride}
use Rattle.font.specs.Overrides.{axis_of, first_axis, with_default, set_default, set_defaults, pair_count, with_override, answered, apply_override}
use Rattle.font.specs.Pairs.{PairSet, LastPair, PairsSet}
use Rattle.font.proofs.First.{none, holds, below_or_last}
use Rattle.font.proofs.Defaults.{part_defaults, tag_defaults, same_axis}
use Rattle.font.proofs.Refusals.{within_limit}

-- ---- one pair

-- no axis has the tag
first_unknown : (axes : List AxisInfo) (n tag : ℕ) → ((i : ℕ) → i < n → (axis_of axes i).tag ≡ tag → ⊥) → first_axis axes n tag ≡ n
unfolding first_axis
first_unknown axes n tag h = none (λ i. eqb (axis_of axes i).tag tag) n (λ i l. ne_eqb (axis_of axes i).tag tag (h i l))

-- the first axis with a tag has it
first_tag : (axes : List AxisInfo) (n tag : ℕ) → first_axis axes n tag < n → (axis_of axes (first_axis axes n tag)).tag ≡ tag
unfolding first_axis
first_tag axes n tag l = eqb-true (axis_of axes (first_axis axes n tag)).tag tag (holds (λ i. eqb (axis_of axes i).tag tag) n l)

length_default : (axes : List AxisInfo) (n tag : ℕ) (value : Float) → length (set_default axes n tag value) ≡ length axes
unfolding set_default
length_default axes n tag value = go (ltb (first_axis axes n tag) n)
  where
    go : (b : Bool) → length (cond b (set axes (first_axis axes n tag) (with_default (axis_of axes (first_axis axes n tag)) value)) axes) ≡ length axes
    go true = length-set axes (first_axis axes n tag) (with_default (axis_of axes (first_axis axes n tag)) value)
    go false = refl

others_stay : (axes : List AxisInfo) (n tag : ℕ) (value : Float) (i : ℕ) → (i ≡ first_axis axes n tag → ⊥)
    → axis_of (set_default axes n tag value) i ≡ axis_of axes i
unfolding set_default axis_of
others_stay axes n tag value i h = go (ltb (first_axis axes n tag) n)
  where
    at : ℕ
    at = first_axis axes n tag

    go : (b : Bool) → axis_of (cond b (set axes at (with_default (axis_of axes at) value)) axes) i ≡ axis_of axes i
    go true = get_or-set_other axes at i (with_default (axis_of axes at) value) _ h
    go false = refl

-- the n axes that count stand in the list
pub pair_set : (axes : List AxisInfo) (n tag : ℕ) (value : Float) → n ≤ length axes → PairSet axes n tag value (set_default axes n tag value)
unfolding set_default axis_of
pair_set axes n tag value long =
    record {
      first_set = λ l. rw (lt-ltb (first_axis axes n tag) n l) (get_or-set_same axes (first_axis axes n tag) (with_default (axis_of axes (first_axis axes n tag)) value) _ (omega arith));
      others_stay = others_stay axes n tag value;
      unknown = λ h. rw (le-ltb (first_axis axes n tag) n (omega (arith, first_unknown axes n tag h)));
    }

-- ---- all pairs

module _ (axes : List AxisInfo) (n : ℕ) (tags : List ℕ) (values : List Float) (long : n ≤ length axes) where
  -- the axes after k pairs, and the axis that pair j sets
  abbrev after : ℕ → List AxisInfo
  after k = set_defaults axes n tags values k

  abbrev place : ℕ → ℕ
  place j = first_axis axes n (get_or tags j 0)

  length_after : (k : ℕ) → length (after k) ≡ length axes
  unfolding set_defaults
  length_after zero = refl
  length_after (suc k) = length_default (after k) n (get_or tags k 0) (get_or values k nan) ∙ length_after k

  -- an axis that is not the pair's stays at one more pair
  step_stays : (k i : ℕ) → (i ≡ place k → ⊥) → axis_of (after (suc k)) i ≡ axis_of (after k) i
  unfolding set_defaults
  step_stays k i h = others_stay (after k) n (get_or tags k 0) (get_or values k nan) i (λ e. h (e ∙ same_axis axes n tags values k n (get_or tags k 0)))

  stays : (k i : ℕ) → ((j : ℕ) → j < k → i ≡ place j → ⊥) → axis_of (after k) i ≡ axis_of axes i
  unfolding set_defaults
  stays zero i h = refl
  stays (suc k) i h = step_stays k i (h k (omega arith)) ∙ stays k i (λ j l. h j (omega arith))

  -- the pair's own axis has its value
  step_sets : (k : ℕ) → place k < n → (axis_of (after (suc k)) (place k)).default ≡ get_or values k nan
  unfolding set_defaults with_default
  step_sets k l =
      let same = same_axis axes n tags values k n (get_or tags k 0) in
      let one = pair_set (after k) n (get_or tags k 0) (get_or values k nan) (omega (arith, length_after k)) in
      rw (sym same) (ap (λ (a : AxisInfo). a.default) (one.first_set (rw same l)))

  -- pairs of two tags set two axes
  two_places : (i j : ℕ) → place j < n → (get_or tags i 0 ≡ get_or tags j 0 → ⊥) → place j ≡ place i → ⊥
  two_places i j l ne e =
      ne (sym (first_tag axes n (get_or tags i 0) (omega arith)) ∙ ap (λ (p : ℕ). (axis_of axes p).tag) (sym e) ∙ first_tag axes n (get_or tags j 0) l)

  later_win : (k j : ℕ) → LastPair tags k j → place j < n → (axis_of (after k) (place j)).default ≡ get_or values j nan
  later_win zero j h l = absurd (omega (arith, h.given))
  later_win (suc k) j h l = ⊎_elim (λ b. earlier b ∙ later_win k j (fewer b) l) (λ e. rw e (step_sets k (rw (sym e) l))) (below_or_last j k h.given)
    where
      earlier : j < k → (axis_of (after (suc k)) (place j)).default ≡ (axis_of (after k) (place j)).default
      earlier b = ap (λ (a : AxisInfo). a.default) (step_stays k (place j) (two_places k j l (h.last k b (omega arith))))

      fewer : j < k → LastPair tags k j
      fewer b = record { given = b; last = λ i g m. h.last i g (omega arith) }

  unknown : (k : ℕ) → ((j i : ℕ) → j < k → i < n → (axis_of axes i).tag ≡ get_or tags j 0 → ⊥) → after k ≡ axes
  unfolding set_defaults
  unknown zero h = refl
  unknown (suc k) h =
      rw (unknown k (λ j i b. h j i (omega arith))) ((pair_set axes n (get_or tags k 0) (get_or values k nan) long).unknown (λ i. h k i (omega arith)))

  -- the axis that a pair sets has the pair's tag, and is the first that has it
  tag_of : (i j : ℕ) → i < n → i ≡ place j → get_or tags j 0 ≡ (axis_of axes i).tag
  tag_of i j l e = rw e (sym (first_tag axes n (get_or tags j 0) (omega arith)))

  pub pairs_set : (k : ℕ) → PairsSet axes n tags values k (after k)
  unfolding with_default
  pairs_set k =
      record {
        later_win = later_win k;
        not_given = λ i l h. stays k i (λ j b e. h j b (tag_of i j l e));
        not_first = λ i l h. stays k i (λ j b e. h (ap (first_axis axes n) (sym (tag_of i j l e)) ∙ sym e));
        unknown = unknown k;
        tag_stays = tag_defaults axes n tags values k;
        min_stays = part_defaults (λ (a : AxisInfo). a.min) (λ a x. refl) axes n tags values k;
        max_stays = part_defaults (λ (a : AxisInfo). a.max) (λ a x. refl) axes n tags values k;
        count_stays = length_after k;
      }

-- ---- `apply_override`, where it refuses nothing: of a face's sixteen axes, every pair; the count of axes stays
pub override_pairs : (f : FontInfo) (o : FontInfoOverride) (tags : List ℕ) (values : List Float) → length f.axes ≡ 16
    → (apply_override f o tags values).refusal ≡ 0
    → PairsSet f.axes f.axis_count tags values (pair_count tags values) (apply_override f o tags values).font.axes
    × ((apply_override f o tags values).font.axis_count ≡ f.axis_count)
unfolding apply_override answered with_override
override_pairs f o tags values sixteen z =
    let few = within_limit f _ z in
    rw (eq-eqb _ 0 z) (pairs_set f.axes f.axis_count tags values (omega arith) (pair_count tags values), refl)
