use mathlib.Core.Path.{◌≡◌}
use lib.ListN.{drop}
use Rattle.query.specs.Values.{list_at}
use Rattle.query.specs.Listed.{row_offers}
use Rattle.query.proofs.Turns.{turns}
use Rattle.query.proofs.offers.Search.list_offer.Given as goal

abbrev pub invariant-loop-k : goal.invariant-loop-k
invariant-loop-k l =
    let self = l.fn.self in
    let answer = turns (row_offers self.job.now self.rows.now self.request) in
    record {
      job : l.self.job ≡ self.job;
      rows : l.self.rows ≡ self.rows;
      request : l.self.request ≡ self.request;
      left : answer (list_at self.job.now l.at) l.n ≡ answer (drop l.k (list_at self.job.now l.at)) l.left;
    }
