-- Width, weight and style each set at most one axis, so that a synthesis has no fourth setting: 29 is in the table, and no call leads to it.
use Rattle.std.specs.Prelude.{Option, None, Some, Result, Ok, Err}
use mathlib.Core.Path.{◌≡◌, refl, ap, ◌∙◌}
use mathlib.Core.Bool.{Bool}
use lib.IntN.{ℤ}
use borrow.Author.Tests.{eqb-false}
use Rattle.std.proofs.lemmas.List.{map-set}
use Rattle.font.specs.Refusals.{number}
use Rattle.font.specs.declared.refusal.Refusal.{Refusal}
use Rattle.matching.specs.declared.synthesis.Setting.{Setting}
use Rattle.matching.specs.declared.synthesis.Synthesis.{Synthesis}
use Rattle.matching.specs.Synthesis.{SynthesisAnswer, unvaried, put, added, laid_out, settled, synthesis_in}
use Rattle.font.proofs.Refusals.{numbered}

pub three : (b : Bool) (k : ℤ) (x y z : Option Setting) → (added (added (added (unvaried 0 b k) x) y) z).refusal ≡ 0
unfolding added put unvaried
three b k None None None = refl
three b k None None (Some t) = refl
three b k None (Some t) None = refl
three b k None (Some t) (Some u) = refl
three b k (Some t) None None = refl
three b k (Some t) None (Some u) = refl
three b k (Some t) (Some u) None = refl
three b k (Some t) (Some u) (Some c) = refl

pub two : (b : Bool) (k : ℤ) (x y : Option Setting) → (added (added (unvaried 0 b k) x) y).refusal ≡ 0
unfolding added
two b k x y = three b k x y None

pub one : (b : Bool) (k : ℤ) (x : Option Setting) → (added (unvaried 0 b k) x).refusal ≡ 0
unfolding added
one b k x = three b k x None None

-- a step, where s is what it should make: no error where s is not refused
pub no_error : (before s : SynthesisAnswer) (why : Refusal) → settled before (Err why) ≡ s → s.refusal ≡ 0 → ⊥
unfolding settled
no_error before s why e z = eqb-false (number why) 0 (numbered why) (ap (λ (x : SynthesisAnswer). x.refusal) e ∙ z)

pub made : (before s : SynthesisAnswer) (x : Synthesis) → settled before (Ok x) ≡ s → laid_out x ≡ s
unfolding settled
made before s x e = e

pub last : (before s : SynthesisAnswer) (r : Result Synthesis Refusal) → settled before r ≡ s → s.refusal ≡ 0 → synthesis_in r ≡ s
unfolding synthesis_in
last before s (Ok x) e z = made before s x e
last before s (Err why) e z = absurd (no_error before s why e z)

-- a slot that is set, among the tags and among the values
pub ruleset slots = (map-set)
