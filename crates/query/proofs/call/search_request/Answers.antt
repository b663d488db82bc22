-- A law of `AnswerCases` for each answer.
use Rattle.std.specs.Prelude.{Ok, Some}
use Prim.Native.Nat.{ℕ}
use mathlib.Core.Path.{sym, ap, subst}
use mathlib.Core.List.{List}
use native.Mathlib.Omega.{arith}
use Rattle.query.specs.Listed.{Names, SectionIn, Locates, search_in}
use Rattle.query.proofs.Checks.{short_job}
use Rattle.query.proofs.RowFamilies.{none_counted}
use Rattle.query.proofs.Loaded.{loaded_of}
use Rattle.query.proofs.AnswerCases.{finds_none, past_list, found_names, finds_offer}
use Rattle.query.proofs.call.search_request.Goals as goal

pub attributes_at-wanted-requires : goal.attributes_at-wanted-requires
attributes_at-wanted-requires c = omega (arith, short_job _ c.requires.tables_of.0.accepted)

pub invariant_of-search : goal.invariant_of-search
invariant_of-search c = record { loaded = loaded_of c.requires.tables_of.0; counted = none_counted _ _ _ _ c.requires.tables_of.1 }

pub request_offer-requires : goal.request_offer-requires
request_offer-requires c = omega (arith, c.requires.request_in_bounds, short_job _ c.requires.tables_of.0.accepted)

pub returns-in_err-offer : goal.returns-in_err-offer
unfolding search_in
returns-in_err-offer c =
    rw c.from_residual.ensures
    (λ reading shows.
    finds_none 1 (λ z. omega arith)
    (past_list _ _ _ _ c.attributes_at-wanted.ensures c.request_of-request.ensures c.request_offer.ensures.value c.requires.tables_of.0 reading shows c.in_err-offer.was))

pub place_of_face-requires : goal.place_of_face-requires
place_of_face-requires c =
    let found = c.request_offer.ensures in
    let same = ap (λ p. p.now) (sym found.kept.0) in
    record {
      section_in = subst (λ (s : List ℕ). SectionIn s c.args.overrides) same c.requires.tables_of.2;
      names = subst (λ (s : List ℕ). Names s c.in_ok-offer.offer) same (found_names _ _ _ _ c.attributes_at-wanted.ensures c.request_of-request.ensures found.value c.in_ok-offer.was);
    }

pub returns : goal.returns
returns c =
    let found = c.request_offer.ensures in
    let lies = subst (λ (s : List ℕ). Locates s c.in_ok-offer.offer c.attributes_at-wanted.result (search_in (Ok (Some c.place_of_face.result)))) (ap (λ p. p.now) found.kept.0) c.place_of_face.ensures in
    λ reading shows.
    finds_offer _ _ _ _ c.attributes_at-wanted.ensures c.request_of-request.ensures found.value c.requires.tables_of.0 reading shows
    c.in_ok-offer.was lies
