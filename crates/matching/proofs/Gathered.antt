-- The rows of the faces of a family by value are the family.
use Prim.Native.Nat.{ℕ, ◌%◌, ◌<◌, ◌≤◌}
use mathlib.Core.Path.{◌≡◌, refl, sym, ◌∙◌, ap}
use mathlib.Core.Bool.{Bool, true, false, cond}
use mathlib.Core.List.{List, []}
use native.Mathlib.Omega.{arith}
use lib.Dec.{eqb}
use lib.ListN.{get_or}
use borrow.Author.Tests.{lt-ltb}
use Rattle.font.specs.declared.font.FontInfo.{FontInfo}
use Rattle.matching.specs.declared.order.Request.{Request}
use Rattle.matching.specs.Order.{choice, equal_places}
use Rattle.matching.specs.Matching.{slnt, has_axis, face_of, no_face, family_of, default_place, axis_count_of}
use Rattle.matching.specs.declared.rows.Row.{Row}
use Rattle.matching.specs.Rows.{no_row, face_of_row, number_at, place_row, family_of_rows, row_of, face_row}
use Rattle.matching.proofs.Alike.{choice_same, equal_same, default_same}

-- the row of a face's attributes, with its slant axis in the lowest bit of the marks, is the face
pub row_face : (font : FontInfo) (marks : ℕ) → eqb (marks % 2) 1 ≡ has_axis font slnt → face_of_row (row_of font.attributes marks) ≡ face_of font
unfolding row_of face_of
row_face font marks e =
    λ k.
    record {
      percent = (face_of font).percent;
      style = (face_of font).style;
      weight = (face_of font).weight;
      ratio = (face_of font).ratio;
      slant = e k;
    }

-- and so is the row of a face by value
pub face_row_lem : (font : FontInfo) → face_of_row (face_row font) ≡ face_of font
unfolding face_row
face_row_lem font = row_face font (cond (has_axis font slnt) 1 0) (go (has_axis font slnt))
  where
    go : (b : Bool) → eqb (cond b 1 0 % 2) 1 ≡ b
    go true = refl
    go false = refl

-- so the family of the rows, each place with its own, has the choice, the equal list and the default of the family by value
module _ (fonts : List FontInfo) (n : ℕ) (rows : List Row) (h : (i : ℕ) → i < n → get_or rows i no_row ≡ face_row (get_or fonts i no_face)) where
  faces_same : (i : ℕ) → i < n → (family_of_rows rows [] n).face i ≡ (family_of fonts n).face i
  unfolding family_of place_row number_at
  faces_same i l = ap face_of_row (h i l) ∙ face_row_lem (get_or fonts i no_face) ∙ sym (rw (lt-ltb i n l))

  pub choice_of : (request : Request) → choice (family_of_rows rows [] n) request ≡ choice (family_of fonts n) request
  unfolding family_of
  choice_of request = choice_same (family_of_rows rows [] n) (family_of fonts n) refl faces_same request

  pub equal_of : (chosen : ℕ) → equal_places (family_of_rows rows [] n) chosen ≡ equal_places (family_of fonts n) chosen
  unfolding family_of
  equal_of chosen = equal_same (family_of_rows rows [] n) (family_of fonts n) refl faces_same chosen

  pub default_of : default_place (family_of_rows rows [] n) ≡ default_place (family_of fonts n)
  unfolding family_of
  default_of = default_same (family_of_rows rows [] n) (family_of fonts n) refl faces_same

-- a face has at most 16 axes
pub axes_few : (font : FontInfo) → axis_count_of font ≤ 16
unfolding axis_count_of
axes_few font = omega arith
