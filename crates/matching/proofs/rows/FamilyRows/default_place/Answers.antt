use Rattle.std.proofs.Common.{arith, ◌≡◌, ℕ, ◌<◌, false, cond, Option, Some, None, IfSome, ltb, sym, ◌∙◌, ap}
use Rattle.std.specs.Option.{unwrap_or}
use borrow.Author.Tests.{lt-ltb, le-ltb}
use lib.Ieee.{of_int, round, of_bits}
use Rattle.font.specs.Single.{single}
use Rattle.font.specs.Attributes.{default_attributes}
use Rattle.matching.specs.Order.{choice}
use Rattle.matching.specs.Matching.{request_of, default_place, place_or}
use Rattle.matching.specs.Rows.{family_of_rows}
use Rattle.matching.proofs.rows.FamilyRows.default_place.Goals as goal

-- a place of the family, or the count, and 0 for none
held : (n k : ℕ) (r : Option ℕ) → place_or n r ≡ k → IfSome r (λ place. place < n) → unwrap_or r 0 ≡ cond (ltb k n) k 0
unfolding place_or
held n k (Some place) e l = e ∙ sym (rw (← e, lt-ltb place n l))
held n k None e l = sym (rw (← e, le-ltb n n (omega arith)))

pub returns : goal.returns
unfolding default_place default_attributes single of_int round of_bits
returns c =
    let s = c.args.self in
    let f = family_of_rows s.rows.now s.members.now s.count in
    c.unwrap_or.ensures
    ∙ held s.count (choice f (request_of default_attributes false)) c.choose.result (c.choose.ensures.value ∙ ap (choice f) c.request_of-request.ensures) c.choose.ensures.within
