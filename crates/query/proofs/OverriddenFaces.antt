-- Faces after overrides: what the code of an override makes of a face, and that no override gives or takes an axis.
use Prim.Native.Nat.{ℕ, ◌+◌, ◌*◌, ◌<◌, min}
use mathlib.Core.Path.{◌≡◌, refl, sym, ap, ◌∙◌}
use mathlib.Core.Bool.{Bool, true, false, cond}
use mathlib.Core.List.{List, [], ◌∷◌, map}
use native.Mathlib.Omega.{arith}
use lib.Dec.{ltb, eqb}
use lib.Ieee.{Float, nan}
use lib.ListN.{get_or}
use borrow.Author.Tests.{eq-eqb, ne_eqb}
use Rattle.font.specs.declared.attributes.Attributes.{Attributes}
use Rattle.font.specs.declared.font.FontInfo.{FontInfo}
use Rattle.font.specs.declared.overrides.FontInfoOverride.{FontInfoOverride}
use Rattle.font.specs.First.{tabulate}
use Rattle.font.specs.Tables.{u32_at}
use Rattle.font.specs.Font.{refusal_under}
use Rattle.font.specs.Overrides.{overridden, axis_of, first_axis, pair_count, set_defaults, with_axes, with_defaults, with_override}
use Rattle.font.proofs.Defaults.{with_pair, one_more_pair, same_axis}
use Rattle.font.proofs.FaceOf.{few_axes, stated}
use Rattle.font.proofs.Tabulated.{length_is, element}
use Rattle.matching.specs.Matching.{axis_at, axis_count_of, axis_place, has_axis}
use Rattle.query.specs.Fields.{NumberedFont}
use Rattle.query.specs.Entries.{Pair, Override}
use Rattle.query.specs.View.{overridden_by, after_overrides, stated_by}
use Rattle.query.specs.Sizes.{override_head, pair_size}
use Rattle.query.specs.Values.{number_at, given_at, pair_at, pairs_at, override_at}
use Rattle.query.specs.CallTables.{axis_in, after_pairs}
use Rattle.query.proofs.EvenEntries.{map_tabulate}

-- the tags and the values of an override's pairs
abbrev pub tags_of : List Pair → List ℕ
tags_of = map (λ (p : Pair). p.tag)

abbrev pub values_of : List Pair → List Float
values_of = map (λ (p : Pair). p.value)

-- ---- pairs and one override, by their positions

module _ (s : List ℕ) (at count : ℕ) where
  tags_are : tags_of (pairs_at s at count) ≡ tabulate (λ k. u32_at s (at + pair_size * k)) count
  unfolding pairs_at pair_at
  tags_are = map_tabulate (λ (p : Pair). p.tag) (λ k. pair_at s (at + pair_size * k)) count

  values_are : values_of (pairs_at s at count) ≡ tabulate (λ k. number_at s (at + pair_size * k + 4)) count
  unfolding pairs_at pair_at
  values_are = map_tabulate (λ (p : Pair). p.value) (λ k. pair_at s (at + pair_size * k)) count

  -- all of them
  all_pairs : pair_count (tags_of (pairs_at s at count)) (values_of (pairs_at s at count)) ≡ count
  unfolding pair_count
  all_pairs =
      rw (tags_are, values_are) (omega (arith, length_is (λ k. u32_at s (at + pair_size * k)) count, length_is (λ k. number_at s (at + pair_size * k + 4)) count))

  -- one more
  pub more_pairs : (k : ℕ) (f : FontInfo) {g : FontInfo} {tag : ℕ} {v : Float} → k < count → g ≡ after_pairs (pairs_at s at count) k f
      → tag ≡ u32_at s (at + pair_size * k) → v ≡ number_at s (at + pair_size * k + 4)
      → with_pair g tag v ≡ after_pairs (pairs_at s at count) (k + 1) f
  unfolding after_pairs with_defaults
  more_pairs k f l so et ev =
      one_more_pair f (tags_of (pairs_at s at count)) (values_of (pairs_at s at count)) k so
      (et ∙ sym (ap (λ (ts : List ℕ). get_or ts k 0) tags_are ∙ element (λ j. u32_at s (at + pair_size * j)) count k 0 l))
      (ev ∙ sym (ap (λ (vs : List Float). get_or vs k nan) values_are ∙ element (λ j. number_at s (at + pair_size * j + 4)) count k nan l))

-- the face that the code makes of one
pub face_overridden : (s : List ℕ) (at : ℕ) (f : FontInfo) {paired : FontInfo} {n : ℕ} {a : Attributes} {g : FontInfoOverride}
    → n ≡ get_or s (at + 16) 0 → paired ≡ after_pairs (pairs_at s (at + override_head) n) n f → g ≡ given_at s at → a ≡ overridden f.attributes g
    → record paired { attributes = a } ≡ overridden_by (override_at s at) f
unfolding overridden_by with_override override_at after_pairs with_axes
face_overridden s at f en ep eg ea =
    λ k.
    record {
      attributes = (ea ∙ ap (overridden f.attributes) eg) k;
      axes =
          (ap (λ (h : FontInfo). h.axes) ep
          ∙ (λ j. set_defaults f.axes f.axis_count (tags_of (pairs (en j))) (values_of (pairs (en j))) (en j))
          ∙ (λ j. set_defaults f.axes f.axis_count (tags_of (pairs m)) (values_of (pairs m)) (sym (all_pairs s (at + override_head) m) j))) k;
      axis_count = ap (λ (h : FontInfo). h.axis_count) ep k;
      charmap_index = ap (λ (h : FontInfo). h.charmap_index) ep k;
    }
  where
    m : ℕ
    m = get_or s (at + 16) 0

    pairs : ℕ → List Pair
    pairs = pairs_at s (at + override_head)

-- a face after an override that may name it
abbrev pub after_one_of : Override → ℕ → FontInfo → FontInfo
after_one_of o i f = cond (eqb o.face i) (overridden_by o f) f

pub named : (o : Override) (i : ℕ) (f : FontInfo) → o.face ≡ i → overridden_by o f ≡ after_one_of o i f
named o i f e = rw (eq-eqb o.face i e)

pub not_named : (o : Override) (i : ℕ) (f : FontInfo) → (o.face ≡ i → ⊥) → f ≡ after_one_of o i f
not_named o i f e = rw (ne_eqb o.face i e)

-- ---- what overrides keep

kept_count : (b : Bool) (o : Override) (f : FontInfo) → (cond b (overridden_by o f) f).axis_count ≡ f.axis_count
unfolding overridden_by with_override
kept_count true o f = refl
kept_count false o f = refl

pub one_count : (o : Override) (i : ℕ) (f : FontInfo) → (after_one_of o i f).axis_count ≡ f.axis_count
one_count o i f = kept_count (eqb o.face i) o f

-- a face has an axis if one with that tag is among the first 16
among : (f : FontInfo) (tag : ℕ) → has_axis f tag ≡ ltb (first_axis f.axes (min f.axis_count 16) tag) (min f.axis_count 16)
unfolding has_axis axis_place axis_at axis_count_of first_axis axis_of
among f tag = refl

kept_axis : (b : Bool) (o : Override) (f : FontInfo) (tag : ℕ) → has_axis (cond b (overridden_by o f) f) tag ≡ has_axis f tag
unfolding overridden_by with_override
kept_axis true o f tag =
    let ts = tags_of o.pairs in
    let vs = values_of o.pairs in
    let most = min f.axis_count 16 in
    among (overridden_by o f) tag ∙ ap (λ (k : ℕ). ltb k most) (same_axis f.axes f.axis_count ts vs (pair_count ts vs) most tag) ∙ sym (among f tag)
kept_axis false o f tag = refl

pub after_axis : (os : List Override) (i : ℕ) (f : FontInfo) (tag : ℕ) → has_axis (after_overrides os i f) tag ≡ has_axis f tag
unfolding after_overrides
after_axis [] i f tag = refl
after_axis (o ∷ os) i f tag = after_axis os i (after_one_of o i f) tag ∙ kept_axis (eqb o.face i) o f tag

-- the axes that a font file states are those of its face
pub stated_axis : (reading : ℕ) (font : NumberedFont) (tag : ℕ) → refusal_under reading font.file font.number ≡ 0
    → axis_in font tag ≡ has_axis (stated_by reading font) tag
unfolding axis_in stated_by
stated_axis reading font tag z =
    let f = stated_by reading font in
    let few = few_axes reading font.file font.number in
    let all : f.axis_count ≡ min f.axis_count 16 = omega arith in
    stated reading font.file font.number tag z ∙ ap (λ (n : ℕ). ltb (first_axis f.axes n tag) n) all ∙ sym (among f tag)
