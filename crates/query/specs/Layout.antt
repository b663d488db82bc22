-- Section 6: a job's layout as bytes, and the limits, written from its text and not from the readers.
use Rattle.std.specs.Prelude.{ℕ, ◌+◌, ◌/◌, ◌%◌, ◌^◌, ◌≤◌, ◌<◌, ◌≡◌, Bool, true, false, cond, List, [], ◌∷◌, ◌++◌, length, get_or, T, Float, Option, None, Some}
use Rattle.std.specs.Float.{binary32}
use Rattle.std.specs.Float.Ieee.{to_bits, fits}
use Rattle.std.specs.Float.Ieee.Scale.{finite}
use Rattle.font.specs.declared.attributes.Angle.{Angle}
use Rattle.font.specs.declared.attributes.Angle.TheVariants.{Unstated, Degrees}
use Rattle.font.specs.declared.attributes.FontStyle.{FontStyle}
use Rattle.font.specs.declared.attributes.FontStyle.TheVariants.{Normal, Italic, Oblique}
use Rattle.font.specs.declared.attributes.Attributes.{Attributes}
use Rattle.font.specs.declared.attributes.FontWidth.{FontWidth}
use Rattle.font.specs.declared.attributes.FontWeight.{FontWeight}
use Rattle.font.specs.declared.overrides.FontInfoOverride.{FontInfoOverride}
use Rattle.font.specs.Single.{accepted_ratio}
use Rattle.font.specs.Collection.{is_collection}
use Rattle.font.specs.Font.{font_refusal}
use Rattle.query.specs.Sizes.{most_bytes, most_faces, most_overrides, most_families, most_places, most_requests}
use Rattle.query.specs.Fields.{NumberedFont}
use Rattle.query.specs.Entries.{Face, Pair, Override, Family, Request}
use Rattle.query.specs.Job.{Job}

-- ---- the bytes

-- "Job and output are big-endian"
unfoldable pub bytes8 : ℕ → List ℕ
bytes8 n = n ∷ []

-- a list of bytes
abbrev pub Bytes : List ℕ → Type 0
Bytes s = (i : ℕ) → get_or s i 0 < 256

unfoldable pub bytes16 : ℕ → List ℕ
bytes16 n = n / 256 ∷ n % 256 ∷ []

unfoldable pub bytes32 : ℕ → List ℕ
bytes32 n = bytes16 (n / 65536) ++ bytes16 (n % 65536)

-- "Ratio, angle, weight and values are 32-bit single bits."
unfoldable pub bytes_of : Float → List ℕ
bytes_of x = bytes32 (to_bits binary32 x)

-- entries in their order
unfoldable pub each : {A : Type 0} → (A → List ℕ) → List A → List ℕ
each e [] = []
each e (x ∷ xs) = e x ++ each e xs

-- "each after a 16-bit count", and after "a byte count"
unfoldable pub after16 : {A : Type 0} → (A → List ℕ) → List A → List ℕ
after16 e xs = bytes16 (length xs) ++ each e xs

unfoldable pub after8 : {A : Type 0} → (A → List ℕ) → List A → List ℕ
after8 e xs = bytes8 (length xs) ++ each e xs

-- a collection's file "is followed by a 16-bit font number"
unfoldable pub layout_number : NumberedFont → List ℕ
layout_number f = cond (is_collection f.file) (bytes16 f.number) []

-- "held byte 0 or 1, 32-bit length, font file"
unfoldable pub layout_font : NumberedFont → List ℕ
layout_font f = bytes32 (length f.file) ++ (f.file ++ layout_number f)

unfoldable pub layout_face : Face → List ℕ
layout_face f = bytes8 (cond f.held 1 0) ++ layout_font f.font

-- "A style is a kind byte (0 normal, 1 italic, 2 oblique unstated, 3 stated) and angle, zero unless kind 3."
unfoldable pub kind_of : FontStyle → ℕ
kind_of Normal = 0
kind_of Italic = 1
kind_of (Oblique Unstated) = 2
kind_of (Oblique (Degrees x)) = 3

unfoldable pub angle_of : FontStyle → Angle
angle_of Normal = Unstated
angle_of Italic = Unstated
angle_of (Oblique a) = a

unfoldable pub layout_angle : Angle → List ℕ
layout_angle Unstated = bytes32 0
layout_angle (Degrees x) = bytes_of x

unfoldable pub layout_style : FontStyle → List ℕ
layout_style t = bytes8 (kind_of t) ++ layout_angle (angle_of t)

-- "mask byte (1 width, 2 style, 4 weight), ratio, style, weight .. Unmasked fields are zero."
unfoldable pub gives_width : Option FontWidth → Bool
gives_width None = false
gives_width (Some w) = true

unfoldable pub gives_style : Option FontStyle → Bool
gives_style None = false
gives_style (Some t) = true

unfoldable pub gives_weight : Option FontWeight → Bool
gives_weight None = false
gives_weight (Some w) = true

unfoldable pub mask_of : FontInfoOverride → ℕ
mask_of o = cond (gives_width o.width) 1 0 + (cond (gives_style o.style) 2 0 + cond (gives_weight o.weight) 4 0)

unfoldable pub layout_width : Option FontWidth → List ℕ
layout_width None = bytes32 0
layout_width (Some w) = bytes_of w.ratio

unfoldable pub layout_style_given : Option FontStyle → List ℕ
layout_style_given None = bytes8 0 ++ bytes32 0
layout_style_given (Some t) = layout_style t

unfoldable pub layout_weight : Option FontWeight → List ℕ
layout_weight None = bytes32 0
layout_weight (Some w) = bytes_of w.value

unfoldable pub layout_given : FontInfoOverride → List ℕ
layout_given o = layout_width o.width ++ (layout_style_given o.style ++ layout_weight o.weight)

-- "pairs of tag and value"
unfoldable pub layout_pair : Pair → List ℕ
layout_pair x = bytes32 x.tag ++ bytes_of x.value

-- "16-bit face, mask byte .., ratio, style, weight, axis pair count byte, pairs of tag and value"
unfoldable pub layout_override : Override → List ℕ
layout_override o = bytes16 o.face ++ (bytes8 (mask_of o.given) ++ (layout_given o.given ++ after8 layout_pair o.pairs))

-- "16-bit face count (to 64), face numbers"
unfoldable pub layout_family : Family → List ℕ
layout_family m = after16 bytes16 m.members

-- "16-bit most offers, ratio, style, weight, then two lists (families, fallbacks), each a byte count and 16-bit numbers"
unfoldable pub layout_attributes : Attributes → List ℕ
layout_attributes a = bytes_of a.width.ratio ++ (layout_style a.style ++ bytes_of a.weight.value)

unfoldable pub layout_request : Request → List ℕ
layout_request r =
    bytes16 r.most ++ (layout_attributes r.attributes ++ (after8 bytes16 r.families ++ after8 bytes16 r.fallbacks))

-- "Four sections, each after a 16-bit count"
unfoldable pub layout : Job → List ℕ
layout j =
    after16 layout_face j.faces
    ++ (after16 layout_override j.overrides ++ (after16 layout_family j.families ++ after16 layout_request j.requests))

-- ---- the limits

-- of every entry
unfoldable pub Every : {A : Type 0} → (A → Type 0) → List A → Type 0
Every P [] = Unit {0}
Every P (x ∷ xs) = P x × Every P xs

-- numbers that their fields hold
abbrev pub Fits8 : ℕ → Type 0
Fits8 n = n < 256

abbrev pub Fits16 : ℕ → Type 0
Fits16 n = n < 65536

abbrev pub Fits32 : ℕ → Type 0
Fits32 n = n < 2 ^ 32

-- section 1: single-precision numbers; "Weights, angles and axis values are finite; width ratios are 0 to 16."
pub record IsNumber (ok : Float → Bool) (x : Float) : Type 0 where
  pub single : T (fits binary32 x)
  pub accepted : ok x ≡ true

abbrev pub IsRatio : Float → Type 0
IsRatio x = IsNumber accepted_ratio x

abbrev pub IsValue : Float → Type 0
IsValue x = IsNumber finite x

-- a font that section 2 does not refuse; a lone one has the number 0, for any other is 30
pub record FontFits (f : NumberedFont) : Type 0 where
  pub long : Fits32 (length f.file)
  pub number : Fits16 f.number
  pub taken : font_refusal f.file f.number ≡ 0

abbrev pub FaceFits : Face → Type 0
FaceFits f = FontFits f.font

unfoldable pub AngleFits : Angle → Type 0
AngleFits Unstated = Unit {0}
AngleFits (Degrees x) = IsValue x

abbrev pub StyleFits : FontStyle → Type 0
StyleFits t = AngleFits (angle_of t)

unfoldable pub WidthFits : Option FontWidth → Type 0
WidthFits None = Unit {0}
WidthFits (Some w) = IsRatio w.ratio

unfoldable pub StyleGivenFits : Option FontStyle → Type 0
StyleGivenFits None = Unit {0}
StyleGivenFits (Some t) = StyleFits t

unfoldable pub WeightFits : Option FontWeight → Type 0
WeightFits None = Unit {0}
WeightFits (Some w) = IsValue w.value

pub record PairFits (x : Pair) : Type 0 where
  pub tag : Fits32 x.tag
  pub value : IsValue x.value

-- in a job of n faces; a face number fits its field
pub record OverrideFits (n : ℕ) (o : Override) : Type 0 where
  pub face : (o.face < n) × Fits16 o.face
  pub width : WidthFits o.given.width
  pub style : StyleGivenFits o.given.style
  pub weight : WeightFits o.given.weight
  pub pairs : Fits8 (length o.pairs) × Every PairFits o.pairs

pub record FamilyFits (n : ℕ) (m : Family) : Type 0 where
  pub few : length m.members ≤ most_places
  pub members : Every (λ i. (i < n) × Fits16 i) m.members

pub record RequestFits (r : Request) : Type 0 where
  pub most : Fits16 r.most
  pub ratio : IsRatio r.attributes.width.ratio
  pub style : StyleFits r.attributes.style
  pub weight : IsValue r.attributes.weight.value
  pub families : Fits8 (length r.families) × Every Fits16 r.families
  pub fallbacks : Fits8 (length r.fallbacks) × Every Fits16 r.fallbacks

-- "Faces (to 256) .. Overrides (to 256) .. Families (to 64) .. Requests (to 256)", of at most 16,777,216 bytes
pub record JobFits (j : Job) : Type 0 where
  pub bytes : length (layout j) ≤ most_bytes
  pub faces : (length j.faces ≤ most_faces) × Every FaceFits j.faces
  pub overrides : (length j.overrides ≤ most_overrides) × Every (OverrideFits (length j.faces)) j.overrides
  pub families : (length j.families ≤ most_families) × Every (FamilyFits (length j.faces)) j.families
  pub requests : (length j.requests ≤ most_requests) × Every RequestFits j.requests
