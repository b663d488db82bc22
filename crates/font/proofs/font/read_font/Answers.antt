use mathlib.Core.Path.{sym, ap, ◌∙◌}
use Rattle.font.specs.Font.{fvar_of, face_of, no_index, index_or}
use Rattle.font.proofs.FaceOf.{taken_under, fits_taken, few_read, index_or_is}
use Rattle.font.proofs.font.read_font.Goals as goal

pub invariant_of-directory : goal.invariant_of-directory
invariant_of-directory c = record { fits = fits_taken _ _ _ _ c.requires c.font_start-start.ensures }

pub read_axes-requires : goal.read_axes-requires
read_axes-requires c = few_read _ _ _ _ _ (taken_under _ _ _ c.requires).1 c.font_start-start.ensures c.data_for_tag-fvar.ensures c.axis_count-count.ensures.0

pub returns : goal.returns
unfolding face_of fvar_of no_index
returns c =
    let index = c.unwrap_or.ensures ∙ index_or_is c.index_in.result ∙ ap (index_or no_index) c.index_in.ensures in
    simp (sym c.font_start-start.ensures, sym c.data_for_tag-fvar.ensures, sym c.axis_count-count.ensures.0, sym c.from_tables.ensures, sym c.read_axes.ensures, sym index)
