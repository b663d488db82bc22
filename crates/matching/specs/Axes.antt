-- The first of some axes with a tag, as a face's axes are searched. No promise to a caller cites this.
use Rattle.std.specs.Prelude.{ℕ, cond, List, Option, None, Some, ltb, eqb, get_or}
use Rattle.font.specs.First.{first}
use Rattle.font.specs.declared.font.AxisInfo.{AxisInfo}
use Rattle.matching.specs.Matching.{no_axis}

abbrev pub first_tagged : List AxisInfo → ℕ → ℕ → Option ℕ
first_tagged axes n tag =
    cond (ltb (first (λ i. eqb (get_or axes i no_axis).tag tag) n) n) (Some (first (λ i. eqb (get_or axes i no_axis).tag tag) n)) None
