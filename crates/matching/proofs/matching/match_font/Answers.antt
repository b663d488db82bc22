-- The answer is the definition's, and so has what demand 3 says: `answer` of proofs/Matched.antt.
use Rattle.matching.specs.Matching.{attributes_from, choice_in}
use Rattle.matching.proofs.Matched.{answer}
use Rattle.matching.proofs.matching.match_font.Goals as goal

pub returns : goal.returns
unfolding attributes_from
returns c =
    let a = c.args in
    let both = answer a.fonts a.count (attributes_from a.width a.style a.weight) a.synthesize_style (choice_in c.choose.result) c.choose.ensures.value in
    record { value = both.0; demand = both.1 }
