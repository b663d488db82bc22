-- Defaults that pairs of a tag and a value set: they change no other part of a face, and no axis's tag, minimum or maximum.
use Prim.Native.Nat.{ℕ, zero, suc, ◌+◌, ◌≤◌}
use mathlib.Core.Path.{◌≡◌, refl, sym, ap, ◌∙◌}
use mathlib.Core.Bool.{Bool, true, false, cond}
use mathlib.Core.List.{List}
use native.Mathlib.Omega.{arith}
use native.Mathlib.Numerals.{add-one}
use lib.Dec.{ltb, eqb}
use lib.Ieee.{Float, nan}
use lib.ListN.{length, get_or, set, length-set, get_or-eq_default}
use lib.Seq.{get_or-set_same, get_or-set_other}
use borrow.Author.Tests.{ltb-true, ltb-false, eqb-true, eqb-false}
use Rattle.font.specs.declared.font.AxisInfo.{AxisInfo}
use Rattle.font.specs.declared.font.FontInfo.{FontInfo}
use Rattle.font.specs.Overrides.{axis_of, first_axis, with_default, set_default, set_defaults, with_axes, with_defaults}
use Rattle.font.proofs.First.{first_same}

-- ---- one pair after another

pub no_pairs : (f : FontInfo) (tags : List ℕ) (values : List Float) → with_defaults f tags values 0 ≡ f
unfolding with_defaults with_axes set_defaults
no_pairs f tags values = refl

-- one pair on a face
abbrev pub with_pair : FontInfo → ℕ → Float → FontInfo
with_pair f tag value = with_axes f (set_default f.axes f.axis_count tag value)

pub one_more_pair : (f : FontInfo) (tags : List ℕ) (values : List Float) (k : ℕ) {g : FontInfo} {tag : ℕ} {value : Float}
    → g ≡ with_defaults f tags values k → tag ≡ get_or tags k 0 → value ≡ get_or values k nan
    → with_pair g tag value ≡ with_defaults f tags values (k + 1)
unfolding with_defaults with_axes set_defaults
one_more_pair f tags values k so et ev = rw add-one (λ j. with_pair (so j) (et j) (ev j))

-- ---- what they keep

pub same_count : (f : FontInfo) (tags : List ℕ) (values : List Float) (k : ℕ) → (with_defaults f tags values k).axis_count ≡ f.axis_count
unfolding with_defaults with_axes
same_count f tags values k = refl

pub ruleset one_by_one = (no_pairs, one_more_pair, same_count)

-- a part of an axis that no default changes: its tag, its minimum, its maximum
module _ {A : Type 0} (part : AxisInfo → A) (keeps : (a : AxisInfo) (x : Float) → part (with_default a x) ≡ part a) where
  part_set : (xs : List AxisInfo) (j i : ℕ) (x : Float) → part (axis_of (set xs j (with_default (axis_of xs j) x)) i) ≡ part (axis_of xs i)
  unfolding axis_of
  part_set xs j i x = go (eqb i j) (ltb j (length xs)) refl refl
    where
      v : AxisInfo
      v = with_default (axis_of xs j) x

      go : (a b : Bool) → eqb i j ≡ a → ltb j (length xs) ≡ b → part (axis_of (set xs j v) i) ≡ part (axis_of xs i)
      go false b s t = ap part (get_or-set_other xs j i v _ (eqb-false i j s))
      go true true s t = rw (eqb-true i j s) (ap part (get_or-set_same xs j v _ (ltb-true j (length xs) t)) ∙ keeps (axis_of xs j) x)
      go true false s t =
          let past = ltb-false j (length xs) t in
          let here = eqb-true i j s in
          let long : length (set xs j v) ≤ i = omega (arith, length-set xs j v) in
          ap part (get_or-eq_default (set xs j v) _ long ∙ sym (get_or-eq_default xs _ (omega arith)))

  part_default : (xs : List AxisInfo) (n tag : ℕ) (x : Float) (i : ℕ) → part (axis_of (set_default xs n tag x) i) ≡ part (axis_of xs i)
  unfolding set_default
  part_default xs n tag x i = go (ltb (first_axis xs n tag) n)
    where
      go : (b : Bool) → part (axis_of (cond b (set xs (first_axis xs n tag) (with_default (axis_of xs (first_axis xs n tag)) x)) xs) i) ≡ part (axis_of xs i)
      go true = part_set xs (first_axis xs n tag) i x
      go false = refl

  pub part_defaults : (xs : List AxisInfo) (n : ℕ) (tags : List ℕ) (values : List Float) (k i : ℕ)
      → part (axis_of (set_defaults xs n tags values k) i) ≡ part (axis_of xs i)
  unfolding set_defaults
  part_defaults xs n tags values zero i = refl
  part_defaults xs n tags values (suc k) i =
      part_default (set_defaults xs n tags values k) n (get_or tags k 0) (get_or values k nan) i ∙ part_defaults xs n tags values k i

pub tag_defaults : (xs : List AxisInfo) (n : ℕ) (tags : List ℕ) (values : List Float) (k i : ℕ)
    → (axis_of (set_defaults xs n tags values k) i).tag ≡ (axis_of xs i).tag
unfolding with_default
tag_defaults = part_defaults (λ (a : AxisInfo). a.tag) (λ a x. refl)

-- so the first axis with a tag stays the first
pub same_axis : (xs : List AxisInfo) (n : ℕ) (tags : List ℕ) (values : List Float) (k m tag : ℕ)
    → first_axis (set_defaults xs n tags values k) m tag ≡ first_axis xs m tag
unfolding first_axis
same_axis xs n tags values k m tag =
    first_same (λ i. eqb (axis_of (set_defaults xs n tags values k) i).tag tag) (λ i. eqb (axis_of xs i).tag tag) m
    (λ i l. ap (λ (t : ℕ). eqb t tag) (tag_defaults xs n tags values k i))
