use mathlib.Core.Path.{sym, ◌∙◌}
use Rattle.font.specs.Refusals as Refusals
use Rattle.query.specs.Reader.{done, ended, end_in}
use Rattle.query.specs.Fields.{font_number}
use Rattle.query.proofs.Fonts.{number_ends}
use Rattle.query.proofs.fields.font_number.Goals as goal

pub returns-then-is_collection : goal.returns-then-is_collection
unfolding Refusals.number
returns-then-is_collection c =
    rw (c.u16_at.ensures, c.font_count.ensures) at c.tested.ensures
    ∙ number_ends _ _ _ _ (sym c.is_collection.ensures ∙ c.if-is_collection.true) c.requires

pub returns : goal.returns
unfolding font_number done ended end_in
returns c = simp (sym c.is_collection.ensures, c.if-is_collection.false)
