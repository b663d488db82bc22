-- Sections 1 and 2: the attributes of a face or a request, their defaults, and which numbers are accepted.
use Rattle.std.specs.Prelude.{Bool, true, ◌&&◌, Float}
use Rattle.std.specs.Float.Ieee.Scale.{finite}
use Rattle.font.specs.declared.attributes.Angle.{Angle}
use Rattle.font.specs.declared.attributes.FontStyle.{FontStyle}
use Rattle.font.specs.declared.attributes.Attributes.{Attributes}
use Rattle.font.specs.declared.attributes.Angle.TheVariants.{Unstated, Degrees}
use Rattle.font.specs.declared.attributes.FontStyle.TheVariants.{Normal, Italic, Oblique}
use Rattle.font.specs.Single.{single, accepted_ratio}

abbrev pub attributes_of : Float → FontStyle → Float → Attributes
attributes_of ratio style weight = record { width = record { ratio = ratio }; style = style; weight = record { value = weight } }

-- "Default attributes are width 1, normal, weight 400."
unfoldable pub default_attributes : Attributes
default_attributes = attributes_of (single 1) Normal (single 400)

-- "Weights, angles and axis values are finite; width ratios are 0 to 16."
unfoldable pub accepted_angle : Angle → Bool
accepted_angle Unstated = true
accepted_angle (Degrees x) = finite x

unfoldable pub accepted_style : FontStyle → Bool
unfolding accepted_angle
accepted_style Normal = true
accepted_style Italic = true
accepted_style (Oblique a) = accepted_angle a

unfoldable pub accepted_attributes : Attributes → Bool
unfolding accepted_style
accepted_attributes a = accepted_ratio a.width.ratio && accepted_style a.style && finite a.weight.value
