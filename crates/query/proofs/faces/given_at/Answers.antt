use mathlib.Core.Path.{◌≡◌, refl, sym, ap, ◌∙◌}
use mathlib.Core.Bool.{Bool, true, false, cond}
use Rattle.std.specs.Prelude.{Option, None, Some}
use Rattle.std.specs.Bool.{then_some}
use Rattle.font.specs.StatedAttributes.{bit}
use Rattle.font.proofs.Classes.{lowest}
use Rattle.query.specs.Values.{given_at}
use Rattle.query.proofs.faces.given_at.Goals as goal

some_where : {A : Type 0} (b : Bool) (x : A) → then_some b x ≡ cond b (Some x) None
some_where true x = refl
some_where false x = refl

given : {A : Type 0} {o : Option A} {b d : Bool} {x y : A} → o ≡ then_some b x → b ≡ d → x ≡ y → o ≡ cond d (Some y) None
given {d = d} {y = y} e p q = e ∙ (λ k. then_some (p k) (q k)) ∙ some_where d y

-- the code tests the bits of the mask by division
pub returns : goal.returns
unfolding given_at bit
returns c =
    let mask = c.byte_at-mask.ensures in
    λ k.
    record {
      width = given c.then_some.ensures (sym (lowest c.byte_at-mask.result) ∙ ap (bit 0) mask) (λ j. record { ratio = (c.new.ensures ∙ c.number_at-ratio.ensures) j }) k;
      style = given c.then_some-2.ensures (ap (bit 1) mask) c.style_at-style.ensures k;
      weight = given c.then_some-3.ensures (ap (bit 2) mask) (λ j. record { value = (c.new-2.ensures ∙ c.number_at-weight.ensures) j }) k;
    }
