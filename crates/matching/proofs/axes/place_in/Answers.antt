use Rattle.std.proofs.Common.{arith, rules, tests, ◌≡◌, ℕ, ◌≤◌, ◌<◌, Bool, cond, List, Some, None, length, get_or, take, eqb, ltb, ◌∙◌, ap}
use Rattle.std.specs.List.{position_or_len}
use Rattle.std.proofs.lemmas.List.{length-take-le, get_or-take}
use Rattle.std.proofs.lemmas.List.Sums.{position_or_len_is}
use Rattle.std.proofs.lemmas.Iterator.{YieldsList-from_slice}
use Rattle.std.proofs.lemmas.Iterator.Search.{position_from_yields_List}
use Rattle.font.specs.First.{first}
use Rattle.font.specs.declared.font.AxisInfo.{AxisInfo}
use Rattle.matching.specs.Matching.{no_axis}
use Rattle.matching.proofs.Below.{Sought, nobody, at, sought}
use Rattle.matching.proofs.axes.place_in.Goals as goal

-- `position` in a list's front finds the first that has the property
position_first : {A : Type 0} (p : A → Bool) (xs : List A) (n : ℕ) (d : A) → n ≤ length xs → position_or_len p (take n xs) ≡ first (λ i. p (get_or xs i d)) n
position_first p xs n d h = go (sought here n)
  where
    here : ℕ → Bool
    here i = p (get_or xs i d)

    long : length (take n xs) ≡ n
    long = length-take-le n xs h

    go : Sought here n (first here n) → position_or_len p (take n xs) ≡ first here n
    go (nobody q f) =
        let e = long in
        position_or_len_is p (take n xs) (first here n) d (omega arith)
        (λ k l. let m : k < n = omega arith in ap p (get_or-take n xs k d m) ∙ f k m)
        (λ l. absurd (omega arith))
    go (at l e f) =
        let q = long in
        position_or_len_is p (take n xs) (first here n) d (omega arith)
        (λ k m. let o : k < n = omega arith in ap p (get_or-take n xs k d o) ∙ f k m)
        (λ m. ap p (get_or-take n xs (first here n) d l) ∙ e)

-- so what it answers
answered : {A : Type 0} (p : A → Bool) (xs : List A) (n : ℕ) (d : A) → n ≤ length xs
    → cond (ltb (position_or_len p (take n xs)) (length (take n xs))) (Some (position_or_len p (take n xs))) None
    ≡ cond (ltb (first (λ i. p (get_or xs i d)) n) n) (Some (first (λ i. p (get_or xs i d)) n)) None
answered p xs n d h = λ k. cond (ltb (position_first p xs n d h k) (length-take-le n xs h k)) (Some (position_first p xs n d h k)) None

pub returns : goal.returns
returns c =
    let tagged = λ (a : AxisInfo). eqb a.tag c.args.tag in
    position_from_yields_List tagged _ _ c.position.result c.position.ensures.ran (YieldsList-from_slice _ c.iter.ensures.rest) (λ x b q k. search (rules, tests))
    ∙ answered tagged c.args.axes.now c.args.count no_axis (omega arith)
