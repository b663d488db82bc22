-- A face as the code carries it: a row of five numbers. The lowest bit of the marks is 1 for a face with a slant axis.
-- And a family: rows, and which of them its places have; and the refusal of the faces by value that were taken so far.
use Rattle.std.specs.Prelude.{ℕ, ◌+◌, ◌*◌, ◌%◌, ◌≤◌, ◌<◌, ◌≡◌, cond, List, eqb, length, get_or}
use Rattle.font.specs.Single.{order_key, whole_percent}
use Rattle.font.specs.Tables.{u16_at}
use Rattle.font.specs.declared.attributes.Attributes.{Attributes}
use Rattle.font.specs.declared.font.FontInfo.{FontInfo}
use Rattle.matching.specs.declared.rows.Row.{Row}
use Rattle.matching.specs.Order.{Face, Family}
use Rattle.matching.specs.Matching.{no_face, style_number, has_axis, slnt}

abbrev pub face_of_row : Row → Face
face_of_row row =
    record {
      percent = row.percent;
      style = row.style;
      weight = row.weight;
      ratio = row.ratio;
      slant = eqb (row.marks % 2) 1;
    }

-- what stands past the rows; nothing below reads there
abbrev pub no_row : Row
no_row = record { percent = 0; style = 0; weight = 0; ratio = 0; marks = 0 }

-- which row the face at a place has: as the members say, the bytes of a 16-bit number for each place; without members each place has its own
unfoldable pub number_at : List ℕ → ℕ → ℕ
number_at members i = cond (eqb (length members) 0) i (u16_at members (2 * i))

unfoldable pub place_row : List Row → List ℕ → ℕ → Row
place_row rows members i = get_or rows (number_at members i) no_row

abbrev pub family_of_rows : List Row → List ℕ → ℕ → Family
family_of_rows rows members n = record { count = n; face = λ i. face_of_row (place_row rows members i) }

-- members, if there are any, reach as far as the place; and its number has a row
abbrev pub HasNumber : List ℕ → ℕ → Type 0
HasNumber members i = (length members ≡ 0 → ⊥) → 2 * i + 2 ≤ length members

pub record HasRow (rows : List Row) (members : List ℕ) (i : ℕ) : Type 0 where
  pub below : i < 64
  pub number : HasNumber members i
  pub known : number_at members i < length rows

-- at most 64 places, each with a row
pub record Placed (rows : List Row) (members : List ℕ) (n : ℕ) : Type 0 where
  pub few : n ≤ 64
  pub each : (i : ℕ) → i < n → HasRow rows members i

-- the row of a face with these attributes
unfoldable pub row_of : Attributes → ℕ → Row
row_of a marks =
    record {
      percent = whole_percent a.width.ratio;
      style = style_number a.style;
      weight = order_key a.weight.value;
      ratio = order_key a.width.ratio;
      marks = marks;
    }

-- the row of a face by value, with no mark but that of the slant axis
unfoldable pub face_row : FontInfo → Row
face_row font = row_of font.attributes (cond (has_axis font slnt) 1 0)

-- of two refusals of faces the one that counts: 19, then 26
unfoldable pub either_refusal : ℕ → ℕ → ℕ
either_refusal before found = cond (eqb found 19) 19 (cond (eqb before 19) 19 (cond (eqb found 26) 26 before))

-- what the calls by value know of the rows that they wrote for a family's faces
pub record TakenRows (fonts : List FontInfo) (n : ℕ) (rows : List Row) : Type 0 where
  pub long : length rows ≡ 64
  pub few : n ≤ 64
  pub each : (i : ℕ) → i < n → get_or rows i no_row ≡ face_row (get_or fonts i no_face)
