-- Section 4 for faces by value: the numbers that the order looks at, the choice, the equal list, the default, and the refusals of calls on a family by value.
use Rattle.std.specs.Prelude.{ℕ, ◌≤◌, ◌<◌, min, ◌≡◌, Bool, true, false, ◌||◌, cond, List, [], ltb, eqb, get_or, Option, None, Some, Result, Ok, Err}
use Rattle.std.specs.Float.{nan}
use Rattle.font.specs.First.{first}
use Rattle.font.specs.Single.{order_key, whole_percent}
use Rattle.font.specs.Attributes.{default_attributes, accepted_attributes}
use Rattle.font.specs.Overrides.{face_refusal}
use Rattle.font.specs.declared.attributes.Angle.TheVariants.{Unstated, Degrees}
use Rattle.font.specs.declared.attributes.FontStyle.{FontStyle}
use Rattle.font.specs.declared.attributes.FontStyle.TheVariants.{Normal, Italic, Oblique}
use Rattle.font.specs.declared.attributes.FontWidth.{FontWidth}
use Rattle.font.specs.declared.attributes.FontWeight.{FontWeight}
use Rattle.font.specs.declared.attributes.Attributes.{Attributes}
use Rattle.font.specs.declared.font.AxisInfo.{AxisInfo}
use Rattle.font.specs.declared.font.FontInfo.{FontInfo}
use Rattle.matching.specs.declared.order.Request.{Request}
use Rattle.matching.specs.declared.stages.Places.{Places}
use Rattle.matching.specs.Below.{some}
use Rattle.font.specs.declared.refusal.Refusal.{Refusal}
use Rattle.font.specs.Refusals.{number}
use Rattle.matching.specs.Order.{Face, Family, stands_before, choice, empty_case, equal_places, laid_out}

-- A style as one number: 0 normal, 1 italic, 2 oblique unstated, and else the order number of the stated angle, raised by 2^31.
unfoldable pub style_number : FontStyle → ℕ
style_number Normal = 0
style_number Italic = 1
style_number (Oblique Unstated) = 2
style_number (Oblique (Degrees x)) = order_key x

-- An axis of a face. Axes past the count are no part of it; a face holds at most 16.
-- `no_axis` stands for what lies past the array's end; nothing below reads there.
abbrev pub no_axis : AxisInfo
no_axis = record { tag = 0; min = nan; default = nan; max = nan }

unfoldable pub axis_at : FontInfo → ℕ → AxisInfo
axis_at font i = get_or font.axes i no_axis

unfoldable pub axis_count_of : FontInfo → ℕ
axis_count_of font = min font.axis_count 16

-- the first axis with a tag; the count of axes where there is none
unfoldable pub axis_place : FontInfo → ℕ → ℕ
axis_place font tag = first (λ i. eqb (axis_at font i).tag tag) (axis_count_of font)

unfoldable pub has_axis : FontInfo → ℕ → Bool
has_axis font tag = ltb (axis_place font tag) (axis_count_of font)

-- `slnt`
unfoldable pub slnt : ℕ
slnt = 0x736C6E74

-- a face by value as the order and the equal list look at it
unfoldable pub face_of : FontInfo → Face
face_of font =
    record {
      percent = whole_percent font.attributes.width.ratio;
      style = style_number font.attributes.style;
      weight = order_key font.attributes.weight.value;
      ratio = order_key font.attributes.width.ratio;
      slant = has_axis font slnt;
    }

-- `no_face` stands for what lies past the array's end; nothing below reads there.
abbrev pub no_face : FontInfo
no_face =
    record {
      attributes = record { width = record { ratio = nan }; style = Normal; weight = record { value = nan } };
      axes = [];
      axis_count = 0;
      charmap_index = record { subtable_offset = 0; is_symbol = false; is_mac_roman = false };
    }

-- past the count a family has no faces
unfoldable pub blank : Face
blank = record { percent = 0; style = 0; weight = 0; ratio = 0; slant = false }

unfoldable pub family_of : List FontInfo → ℕ → Family
family_of fonts n = record { count = n; face = λ i. cond (ltb i n) (face_of (get_or fonts i no_face)) blank }

-- the request's numbers
unfoldable pub attributes_from : FontWidth → FontStyle → FontWeight → Attributes
attributes_from w s v = record { width = w; style = s; weight = v }

unfoldable pub request_of : Attributes → Bool → Request
request_of a on =
    record {
      percent = whole_percent a.width.ratio;
      style = style_number a.style;
      weight = order_key a.weight.value;
      synthesis = on;
    }

-- "Calls below the job, on a family or face by value, refuse 19 (over 64 faces or 16 axes), 24 (no such place) and 26 in that order". The numbers that 26 tests
-- are all of the faces within the count, and all of the request.
unfoldable pub refused_as : List FontInfo → ℕ → ℕ → Bool
refused_as fonts n number = some (λ i. eqb (face_refusal (get_or fonts i no_face)) number) n

unfoldable pub faces_refusal : List FontInfo → ℕ → ℕ
faces_refusal fonts n = cond (ltb 64 n || refused_as fonts n 19) 19 (cond (refused_as fonts n 26) 26 0)

unfoldable pub family_refusal : List FontInfo → ℕ → Attributes → ℕ
family_refusal fonts n a = cond (eqb (faces_refusal fonts n) 0) (cond (accepted_attributes a) 0 26) (faces_refusal fonts n)

-- a place, or the count where there is none
unfoldable pub place_or : ℕ → Option ℕ → ℕ
place_or n (Some place) = place
place_or n None = n

-- the answer of `match_font`: the chosen place, nothing, or the number of the refusal
pub data Choice : Type 0 where
  Place : ℕ → Choice
  Nothing : Choice
  Refused : ℕ → Choice

unfoldable pub choice_in : Result (Option ℕ) Refusal → Choice
choice_in (Ok (Some place)) = Place place
choice_in (Ok None) = Nothing
choice_in (Err why) = Refused (number why)

unfoldable pub answered : ℕ → ℕ → Choice
answered n r = cond (ltb r n) (Place r) Nothing

unfoldable pub match_font : List FontInfo → ℕ → Attributes → Bool → Choice
match_font fonts n a on =
    cond (eqb (family_refusal fonts n a) 0)
    (answered n (choice (family_of fonts n) (request_of a on)))
    (Refused (family_refusal fonts n a))

-- Demand 3's first half, of an answer.
pub record Chosen (family : Family) (request : Request) (answer : Choice) : Type 0 where
  pub stands : (p : ℕ) → answer ≡ Place p
      → (p < family.count) × ((j : ℕ) → j < family.count → (j ≡ p → ⊥) → stands_before family request p j ≡ true)
  pub none : answer ≡ Nothing → empty_case family request ≡ true
  pub empty : empty_case family request ≡ true → answer ≡ Nothing

-- and of the answer of `match_font`: for two or more faces, where the call is not refused
abbrev pub ChosenOf : List FontInfo → ℕ → Attributes → Bool → Choice → Type 0
ChosenOf fonts n a on answer = family_refusal fonts n a ≡ 0 → 2 ≤ n → Chosen (family_of fonts n) (request_of a on) answer

-- an equal list, and the number of the refusal, 0 for none; beside a refusal stands no list
pub record Matches : Type 0 where
  pub refusal : ℕ
  pub list : Places

unfoldable pub matches_in : Result Places Refusal → Matches
matches_in (Ok list) = record { refusal = 0; list = list }
matches_in (Err why) = record { refusal = number why; list = laid_out [] }

-- the equal list of an answer
unfoldable pub equal_list : List FontInfo → ℕ → Choice → Matches
equal_list fonts n (Place p) = record { refusal = 0; list = laid_out (equal_places (family_of fonts n) p) }
equal_list fonts n Nothing = record { refusal = 0; list = laid_out [] }
equal_list fonts n (Refused number) = record { refusal = number; list = laid_out [] }

-- "A family's default is its choice for default attributes with synthesis off, or 0."
unfoldable pub default_place : Family → ℕ
default_place family =
    cond (ltb (choice family (request_of default_attributes false)) family.count) (choice family (request_of default_attributes false)) 0
