-- Section 3: overrides on a face by value, and which faces are accepted.
use Rattle.std.specs.Prelude.{ℕ, zero, suc, min, Option, None, Some, Bool, true, false, ◌&&◌, cond, List, length, get_or, set, leb, ltb, eqb, Float}
use Rattle.std.specs.Float.{nan}
use Rattle.std.specs.Float.Ieee.{eq}
use Rattle.std.specs.Float.Ieee.Scale.{finite}
use Rattle.font.specs.declared.attributes.FontStyle.{FontStyle}
use Rattle.font.specs.declared.attributes.FontStyle.TheVariants.{Normal, Italic, Oblique}
use Rattle.font.specs.declared.attributes.Attributes.{Attributes}
use Rattle.font.specs.declared.font.AxisInfo.{AxisInfo}
use Rattle.font.specs.declared.font.FontInfo.{FontInfo}
use Rattle.font.specs.Refusals.{Checked}
use Rattle.font.specs.declared.attributes.FontWidth.{FontWidth}
use Rattle.font.specs.declared.attributes.FontWeight.{FontWeight}
use Rattle.font.specs.declared.overrides.FontInfoOverride.{FontInfoOverride}
use Rattle.font.specs.First.{first, every}
use Rattle.font.specs.Single.{single, accepted_ratio}
use Rattle.font.specs.Attributes.{attributes_of, accepted_style, accepted_attributes}

-- ---- "`apply_override` replaces the present attributes"

unfoldable pub ratio_of : Option FontWidth → Float → Float
ratio_of None own = own
ratio_of (Some w) own = w.ratio

unfoldable pub style_of : Option FontStyle → FontStyle → FontStyle
style_of None own = own
style_of (Some s) own = s

unfoldable pub weight_of : Option FontWeight → Float → Float
weight_of None own = own
weight_of (Some w) own = w.value

unfoldable pub overridden : Attributes → FontInfoOverride → Attributes
overridden a o =
    attributes_of (ratio_of o.width a.width.ratio) (style_of o.style a.style) (weight_of o.weight a.weight.value)

-- ---- "then sets the default of the first axis with each given tag; later pairs win, unknown tags do nothing, and there is no clamping"

-- the axis at i; what stands past the list is read by nothing
unfoldable pub axis_of : List AxisInfo → ℕ → AxisInfo
axis_of axes i = get_or axes i (record { tag = 0; min = nan; default = nan; max = nan })

-- the first of n axes with a tag, or n
unfoldable pub first_axis : List AxisInfo → ℕ → ℕ → ℕ
first_axis axes n tag = first (λ i. eqb (axis_of axes i).tag tag) n

unfoldable pub with_default : AxisInfo → Float → AxisInfo
with_default a value = record { tag = a.tag; min = a.min; default = value; max = a.max }

unfoldable pub set_default : List AxisInfo → ℕ → ℕ → Float → List AxisInfo
set_default axes n tag value =
    cond (ltb (first_axis axes n tag) n)
    (set axes (first_axis axes n tag) (with_default (axis_of axes (first_axis axes n tag)) value))
    axes

-- The pairs are given as a list of tags and a list of values, of which the shorter says how many pairs there are.
unfoldable pub pair_count : List ℕ → List Float → ℕ
pair_count tags values = min (length tags) (length values)

-- after the first k pairs, in order
unfoldable pub set_defaults : List AxisInfo → ℕ → List ℕ → List Float → ℕ → List AxisInfo
set_defaults axes n tags values zero = axes
set_defaults axes n tags values (suc k) = set_default (set_defaults axes n tags values k) n (get_or tags k 0) (get_or values k nan)

-- a face with other axes
unfoldable pub with_axes : FontInfo → List AxisInfo → FontInfo
with_axes f axes =
    record { attributes = f.attributes; axes = axes; axis_count = f.axis_count; charmap_index = f.charmap_index }

-- a face after the first k pairs, in order
unfoldable pub with_defaults : FontInfo → List ℕ → List Float → ℕ → FontInfo
with_defaults f tags values k = with_axes f (set_defaults f.axes f.axis_count tags values k)

unfoldable pub with_override : FontInfo → FontInfoOverride → List ℕ → List Float → FontInfo
with_override f o tags values =
    record {
      attributes = overridden f.attributes o;
      axes = set_defaults f.axes f.axis_count tags values (pair_count tags values);
      axis_count = f.axis_count;
      charmap_index = f.charmap_index;
    }

-- ---- "`maybe_override_attributes` replaces only attributes that equal the defaults"

unfoldable pub is_normal : FontStyle → Bool
is_normal Normal = true
is_normal Italic = false
is_normal (Oblique a) = false

unfoldable pub replaced_defaults : Attributes → Attributes → Attributes
replaced_defaults own given =
    attributes_of
    (cond (eq own.width.ratio (single 1)) given.width.ratio own.width.ratio)
    (cond (is_normal own.style) given.style own.style)
    (cond (eq own.weight.value (single 400)) given.weight.value own.weight.value)

unfoldable pub with_attributes : FontInfo → Attributes → FontInfo
with_attributes f a =
    record { attributes = a; axes = f.axes; axis_count = f.axis_count; charmap_index = f.charmap_index }

-- ---- section 1: which numbers are accepted

unfoldable pub accepted_axis : AxisInfo → Bool
accepted_axis a = finite a.min && (finite a.default && finite a.max)

-- every number of the face within its count of axes
unfoldable pub accepted_face : FontInfo → Bool
accepted_face f = accepted_attributes f.attributes && every (λ i. accepted_axis (axis_of f.axes i)) f.axis_count

unfoldable pub accepted_width_override : Option FontWidth → Bool
accepted_width_override None = true
accepted_width_override (Some w) = accepted_ratio w.ratio

unfoldable pub accepted_style_override : Option FontStyle → Bool
accepted_style_override None = true
accepted_style_override (Some s) = accepted_style s

unfoldable pub accepted_weight_override : Option FontWeight → Bool
accepted_weight_override None = true
accepted_weight_override (Some w) = finite w.value

unfoldable pub accepted_override : FontInfoOverride → Bool
accepted_override o = accepted_width_override o.width && (accepted_style_override o.style && accepted_weight_override o.weight)

unfoldable pub accepted_pairs : List ℕ → List Float → Bool
accepted_pairs tags values = every (λ i. finite (get_or values i nan)) (pair_count tags values)

-- ---- refusals, section 6's last paragraph: "19 (over .. 16 axes) .. and 26 in that order"

-- 0 is no refusal; `given` says whether the numbers given beside the face are accepted
unfoldable pub refusal_of : FontInfo → Bool → ℕ
refusal_of f given = cond (leb f.axis_count 16) (cond (accepted_face f && given) 0 26) 19

unfoldable pub face_refusal : FontInfo → ℕ
face_refusal f = refusal_of f true

-- a refusal stands beside the face as it was given
unfoldable pub answered : ℕ → FontInfo → FontInfo → Checked
answered refusal f changed = record { refusal = refusal; font = cond (eqb refusal 0) changed f }

unfoldable pub apply_override : FontInfo → FontInfoOverride → List ℕ → List Float → Checked
apply_override f o tags values =
    answered (refusal_of f (accepted_override o && accepted_pairs tags values)) f (with_override f o tags values)

unfoldable pub maybe_override_attributes : FontInfo → Attributes → Checked
maybe_override_attributes f given =
    answered (refusal_of f (accepted_attributes given)) f (with_attributes f (replaced_defaults f.attributes given))
