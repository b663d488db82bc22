-- A search while families' offers are counted. No promise to a user cites this.
use Rattle.std.specs.Prelude.{◌≡◌}
use Rattle.query.specs.declared.offers.Search.{Search}

-- it is a search in the same job, by the same rows, for the same request
abbrev pub Keeps : Search → Search → Type 0
Keeps before after = (after.job ≡ before.job) × (after.rows ≡ before.rows) × (after.request ≡ before.request)
