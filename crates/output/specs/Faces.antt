-- The words of a face, in the order and with the digits that `rust/README.md` has for the lists: what is printed for each.
use Rattle.std.specs.Prelude.{ℕ, min, ◌-◌, ◌^◌, false, cond, List, [], ◌∷◌, ◌++◌, Option, None, Some, Float, codes, take, flat_map}
use Rattle.std.specs.Float.Ieee.{binary32, is_nan, to_bits}
use Rattle.std.specs.Fmt.{decimal, digits, padded_integral, format_spec}
use Rattle.font.specs.declared.attributes.Angle.TheVariants.{Unstated, Degrees}
use Rattle.font.specs.declared.attributes.FontStyle.{FontStyle}
use Rattle.font.specs.declared.attributes.FontStyle.TheVariants.{Normal, Italic, Oblique}
use Rattle.font.specs.declared.attributes.Attributes.{Attributes}
use Rattle.font.specs.declared.charmap.CharmapIndex.{CharmapIndex}
use Rattle.font.specs.declared.font.AxisInfo.{AxisInfo}
use Rattle.font.specs.declared.font.FontInfo.{FontInfo}

-- 8 hexadecimal digits, with zeros before them
abbrev pub eight_digits : ℕ → List ℕ
eight_digits n = padded_integral (format_spec 32 0 4 8 (2 ^ 64 - 1)) false [] (digits 16 false n)

-- the bits of a number, or 0 for a NaN
abbrev pub bits_words : Float → List ℕ
bits_words x = eight_digits (cond (is_nan x) 0 (to_bits binary32 x))

-- a style: its kind, and its angle, which is 0 where none is stated
abbrev pub style_words : FontStyle → List ℕ
style_words Normal = codes "0 00000000"
style_words Italic = codes "1 00000000"
style_words (Oblique Unstated) = codes "2 00000000"
style_words (Oblique (Degrees x)) = codes "3 " ++ bits_words x

-- attributes: ratio, style and weight
abbrev pub attributes_words : Attributes → List ℕ
attributes_words a = bits_words a.width.ratio ++ (32 ∷ style_words a.style) ++ (32 ∷ bits_words a.weight.value)

-- an axis: tag, minimum, default and maximum
abbrev pub axis_words : AxisInfo → List ℕ
axis_words axis =
    eight_digits axis.tag ++ (61 ∷ bits_words axis.min) ++ (44 ∷ bits_words axis.default) ++ (44 ∷ bits_words axis.max)

-- the axes of a face, each after a blank
abbrev pub axes_words : FontInfo → List ℕ
axes_words font = flat_map (λ axis. 32 ∷ axis_words axis) (take (min font.axis_count 16) font.axes)

-- an offset, and 1 or 0 for each of a symbol and a Mac Roman record
abbrev pub index_words : CharmapIndex → List ℕ
index_words index =
    decimal index.subtable_offset ++ (32 ∷ decimal (cond index.is_symbol 1 0)) ++ (32 ∷ decimal (cond index.is_mac_roman 1 0))

-- a place, or `-`
abbrev pub choice_words : Option ℕ → List ℕ
choice_words (Some place) = decimal place
choice_words None = 45 ∷ []
