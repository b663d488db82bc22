-- Slant in the OpenType sense: the two readings of a job (docs/GUIDE.md, section 6). "In `post` and on the `slnt` axis a negative angle leans right; in CSS a positive
-- one does." Reading 0 copies a font's number, as the crate does; reading 1 negates it. Laws of these are in proofs/Opposites.antt.
use Rattle.std.specs.Prelude.{ℕ, ◌≡◌, Bool, cond, ◌||◌, eqb, Float, Result, Ok, Err}
use Rattle.std.specs.Float.Ieee.{neg, eq}
use Rattle.font.specs.declared.attributes.Angle.{Angle}
use Rattle.font.specs.declared.attributes.FontStyle.{FontStyle}
use Rattle.font.specs.declared.attributes.Attributes.{Attributes}
use Rattle.font.specs.declared.font.FontInfo.{FontInfo}
use Rattle.font.specs.declared.refusal.Refusal.{Refusal}
use Rattle.font.specs.declared.refusal.Refusal.TheVariants.{Unknown}
use Rattle.font.specs.declared.slant.Reading.{Reading}
use Rattle.font.specs.declared.slant.Reading.TheVariants.{AsStated, Opposite}
use Rattle.font.specs.declared.attributes.Angle.TheVariants.{Unstated, Degrees}
use Rattle.font.specs.declared.attributes.FontStyle.TheVariants.{Normal, Italic, Oblique}
use Rattle.font.specs.Single.{single}

-- "(0 old, 1 new; another value is 25 ..)"
unfoldable pub is_reading : ℕ → Bool
is_reading reading = eqb reading 0 || eqb reading 1

-- the number of a reading, and the reading of a number, which 25 refuses where there is none
unfoldable pub reading_number : Reading → ℕ
reading_number AsStated = 0
reading_number Opposite = 1

unfoldable pub reading_of : ℕ → Result Reading Refusal
reading_of n = cond (eqb n 0) (Ok AsStated) (cond (eqb n 1) (Ok Opposite) (Err Unknown))

abbrev pub ReadingOf : ℕ → Result Reading Refusal → Type 0
ReadingOf n result = result ≡ reading_of n

-- "negates .. Zero keeps positive sign there": minus x, and positive zero for either zero
unfoldable pub opposite : Float → Float
opposite x = cond (eq x (single 0)) (single 0) (neg x)

-- a slant that is read of a font, or set in it, under a reading
unfoldable pub slant_under : ℕ → Float → Float
slant_under reading x = cond (eqb reading 1) (opposite x) x

-- ---- what reading 1 makes of what reading 0 reads, said without a reading: the stated angle of an oblique is negated, and nothing else is another

unfoldable pub opposite_angle : Angle → Angle
opposite_angle Unstated = Unstated
opposite_angle (Degrees x) = Degrees (opposite x)

unfoldable pub opposite_style : FontStyle → FontStyle
opposite_style Normal = Normal
opposite_style Italic = Italic
opposite_style (Oblique a) = Oblique (opposite_angle a)

unfoldable pub opposite_attributes : Attributes → Attributes
opposite_attributes a = record { width = a.width; style = opposite_style a.style; weight = a.weight }

unfoldable pub opposite_face : FontInfo → FontInfo
opposite_face face =
    record {
      attributes = opposite_attributes face.attributes;
      axes = face.axes;
      axis_count = face.axis_count;
      charmap_index = face.charmap_index;
    }
