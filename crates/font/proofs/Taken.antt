-- What std's words say of the first n of a list, in this crate's words of n numbered things.
use Prim.Native.Nat.{ℕ, zero, suc, ◌≤◌, min}
use mathlib.Core.Path.{◌≡◌, refl, sym, ◌∙◌, ap}
use mathlib.Core.Bool.{Bool, true, false, ◌&&◌, cond}
use mathlib.Core.List.{List}
use native.Mathlib.Omega.{arith}
use native.Mathlib.Numerals.{add-one}
use lib.Ieee.{Float, nan}
use lib.Ieee.Scale.{finite}
use lib.ListN.{length, get_or, take, set}
use lib.Dec.{ltb, eqb}
use Rattle.std.specs.List.{list_all, position_or_len, position}
use Rattle.std.specs.Prelude.{Some, None}
use Rattle.std.proofs.lemmas.List.{length-take, get_or-take, length-take-le, take_min}
use Rattle.std.proofs.lemmas.Option.{none-some}
use Rattle.std.proofs.lemmas.List.Folds.{list_all_more}
use Rattle.std.proofs.lemmas.List.Sums.{position_or_len_is}
use Rattle.font.specs.declared.font.AxisInfo.{AxisInfo}
use Rattle.font.specs.declared.font.FontInfo.{FontInfo}
use Rattle.font.specs.Attributes.{accepted_attributes}
use Rattle.font.specs.Overrides.{accepted_axis, accepted_face, accepted_pairs, pair_count, axis_of, first_axis, set_default, with_default}
use Rattle.font.specs.First.{first, every}
use Rattle.font.proofs.First.{at_most, before, holds}

pub every_taken : {X : Type 0} (p : X → Bool) (xs : List X) (d : X) (n : ℕ) → n ≤ length xs → list_all p (take n xs) ≡ every (λ i. p (get_or xs i d)) n
unfolding every
every_taken p xs d zero l = refl
every_taken p xs d (suc n) l = rw (← add-one n) (list_all_more p xs n d (omega arith) ∙ ap (λ (b : Bool). b && p (get_or xs n d)) (every_taken p xs d n (omega arith)))

-- of n that are asked for, as many as there are
pub every_there : {X : Type 0} (p : X → Bool) (xs : List X) (d : X) (n : ℕ) → list_all p (take n xs) ≡ every (λ i. p (get_or xs i d)) (min n (length xs))
every_there p xs d n = ap (list_all p) (sym (take_min n xs)) ∙ every_taken p xs d (min n (length xs)) (omega arith)

pub first_taken : {X : Type 0} (p : X → Bool) (xs : List X) (d : X) (n : ℕ) → n ≤ length xs → position_or_len p (take n xs) ≡ first (λ i. p (get_or xs i d)) n
first_taken {X} p xs d n l =
    position_or_len_is p (take n xs) (first q n) d (omega (arith, long, top))
    (λ k h. ap p (get_or-take n xs k d (omega (arith, top))) ∙ before q n k h)
    (λ h. ap p (get_or-take n xs (first q n) d (omega (arith, long))) ∙ holds q n (omega (arith, long)))
  where
    q : ℕ → Bool
    q i = p (get_or xs i d)

    long : length (take n xs) ≡ min n (length xs)
    long = length-take n xs

    top : first q n ≤ n
    top = at_most q n

-- ---- pairs

pub pairs_taken : (tags : List ℕ) (values : List Float) → list_all finite (take (length tags) values) ≡ accepted_pairs tags values
unfolding accepted_pairs pair_count
pairs_taken tags values = every_there finite values nan (length tags)

-- ---- the axes of a face

pub face_accepted : (f : FontInfo) → f.axis_count ≤ length f.axes → accepted_face f ≡ (accepted_attributes f.attributes && list_all accepted_axis (take f.axis_count f.axes))
unfolding accepted_face axis_of
face_accepted f l = ap (λ (b : Bool). accepted_attributes f.attributes && b) (sym (every_taken accepted_axis f.axes _ f.axis_count l))

-- the first with a tag, as `position` finds it
axis_position : (xs : List AxisInfo) (n tag : ℕ) → n ≤ length xs
    → position (λ axis. eqb axis.tag tag) (take n xs) ≡ cond (ltb (first_axis xs n tag) n) (Some (first_axis xs n tag)) None
unfolding first_axis axis_of
axis_position xs n tag l =
    rw (first_taken (λ axis. eqb axis.tag tag) xs (record { tag = 0; min = nan; default = nan; max = nan }) n l, length-take-le n xs l)

pub set_found : (xs : List AxisInfo) (n tag : ℕ) (value : Float) (i : ℕ) → n ≤ length xs → position (λ axis. eqb axis.tag tag) (take n xs) ≡ Some i
    → set_default xs n tag value ≡ set xs i (with_default (axis_of xs i) value)
unfolding set_default
set_found xs n tag value i l e = go (ltb (first_axis xs n tag) n) (sym (axis_position xs n tag l) ∙ e)
  where
    at : ℕ → List AxisInfo
    at k = set xs k (with_default (axis_of xs k) value)

    go : (b : Bool) → cond b (Some (first_axis xs n tag)) None ≡ Some i → cond b (at (first_axis xs n tag)) xs ≡ at i
    go true s = let same : first_axis xs n tag ≡ i = cc in ap at same
    go false s = absurd (none-some i s)

pub set_none : (xs : List AxisInfo) (n tag : ℕ) (value : Float) → n ≤ length xs → position (λ axis. eqb axis.tag tag) (take n xs) ≡ None
    → set_default xs n tag value ≡ xs
unfolding set_default
set_none xs n tag value l e = go (ltb (first_axis xs n tag) n) (sym (axis_position xs n tag l) ∙ e)
  where
    go : (b : Bool) → cond b (Some (first_axis xs n tag)) None ≡ None → cond b (set xs (first_axis xs n tag) (with_default (axis_of xs (first_axis xs n tag)) value)) xs ≡ xs
    go true s = absurd (none-some _ (sym s))
    go false s = refl

pub ruleset tagged_default = (set_found, set_none)
