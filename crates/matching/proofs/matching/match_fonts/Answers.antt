use Rattle.std.proofs.Common.{rules, ◌≡◌, Err, sym, ◌∙◌, ap}
use Rattle.matching.specs.Order.{equal_places, laid_out}
use Rattle.matching.specs.Matching.{attributes_from, place_or, choice_in, matches_in, equal_list}
use Rattle.matching.proofs.Matched.{listed}
use Rattle.matching.proofs.Taken.{whole}
use Rattle.matching.proofs.matching.match_fonts.Goals as goal

pub returns-in_err-chosen : goal.returns-in_err-chosen
unfolding attributes_from choice_in matches_in equal_list
returns-in_err-chosen c =
    let a = c.args in
    let z : c.from_residual.result ≡ Err c.in_err-chosen.field-0.0 = search rules in
    ap matches_in z ∙ ap (equal_list a.fonts a.count) (ap choice_in (sym c.in_err-chosen.was) ∙ c.choose.ensures.value)

pub returns : goal.returns
unfolding attributes_from matches_in
returns c =
    let a = c.args in
    let d = c.of_faces-family in
    let w = whole a.fonts a.count c.choose.new.rows c.in_ok-chosen.ensures.taken in
    let r = c.in_ok-chosen.chosen in
    let list = c.equal_places.ensures ∙ (λ i. laid_out (equal_places (d.ensures.0 i) (place_or (d.ensures.1 i) r))) ∙ ap laid_out (w.equal_of (place_or a.count r)) in
    (λ i. record { refusal = 0; list = list i })
    ∙ listed a.fonts a.count r
    ∙ ap (equal_list a.fonts a.count) (ap choice_in (sym c.in_ok-chosen.was) ∙ c.choose.ensures.value)
