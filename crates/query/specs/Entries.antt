-- Section 6: the entries of a job's four sections, as data and as they are read.
use Rattle.std.specs.Prelude.{ℕ, Bool, true, false, cond, List, eqb, Float, Option, None, Some}
use Rattle.font.specs.declared.attributes.Angle.{Angle}
use Rattle.font.specs.declared.attributes.Angle.TheVariants.{Unstated, Degrees}
use Rattle.font.specs.declared.attributes.FontStyle.{FontStyle}
use Rattle.font.specs.declared.attributes.FontStyle.TheVariants.{Normal, Italic, Oblique}
use Rattle.font.specs.declared.attributes.Attributes.{Attributes}
use Rattle.font.specs.declared.attributes.FontWidth.{FontWidth}
use Rattle.font.specs.declared.attributes.FontWeight.{FontWeight}
use Rattle.font.specs.declared.overrides.FontInfoOverride.{FontInfoOverride}
use Rattle.font.specs.Attributes.{attributes_of}
use Rattle.font.specs.StatedAttributes.{bit}
use Rattle.query.specs.Sizes.{most_places}
use Rattle.query.specs.Reader.{Reader, done, ◌>>=◌}
use Rattle.query.specs.Fields.{half, word, ratio, value, counted, byte_counted, held_byte, face_number, mask, kind, spare_byte, spare_word, or_spare, NumberedFont, font_file}

-- "held byte 0 or 1, 32-bit length, font file", and a collection's font number
pub record Face : Type 0 where
  pub held : Bool
  pub font : NumberedFont

unfoldable pub read_face : Reader Face
read_face = do
  h ← held_byte
  f ← font_file
  done (record { held = eqb h 1; font = f })

-- "A style is a kind byte (0 normal, 1 italic, 2 oblique unstated, 3 stated) and angle, zero unless kind 3."
unfoldable pub style_of_kind : ℕ → Angle → FontStyle
style_of_kind k a = cond (eqb k 0) Normal (cond (eqb k 1) Italic (Oblique a))

unfoldable pub read_angle : Reader Angle
read_angle = do
  x ← value
  done (Degrees x)

unfoldable pub read_style : Reader FontStyle
read_style = do
  k ← kind
  a ← or_spare (eqb k 3) Unstated read_angle
  done (style_of_kind k a)

-- ratio, style and weight by the mask: "Unmasked fields are zero."
unfoldable pub read_width : Reader (Option FontWidth)
read_width = do
  x ← ratio
  done (Some (record { ratio = x }))

unfoldable pub read_weight : Reader (Option FontWeight)
read_weight = do
  x ← value
  done (Some (record { value = x }))

unfoldable pub style_or_spare : Bool → Reader (Option FontStyle)
style_or_spare true = do
  x ← read_style
  done (Some x)
style_or_spare false = do
  k ← spare_byte
  a ← spare_word
  done None

unfoldable pub read_given : ℕ → Reader FontInfoOverride
read_given m = do
  width ← or_spare (bit 0 m) None read_width
  style ← style_or_spare (bit 1 m)
  weight ← or_spare (bit 2 m) None read_weight
  done (record { width = width; style = style; weight = weight })

-- "pairs of tag and value"
pub record Pair : Type 0 where
  pub tag : ℕ
  pub value : Float

unfoldable pub read_pair : Reader Pair
read_pair = do
  tag ← word
  x ← value
  done (record { tag = tag; value = x })

-- "16-bit face, mask byte .., ratio, style, weight, axis pair count byte, pairs of tag and value"
pub record Override : Type 0 where
  pub face : ℕ
  pub given : FontInfoOverride
  pub pairs : List Pair

unfoldable pub read_override : ℕ → Reader Override
read_override faces = do
  face ← face_number faces
  m ← mask
  given ← read_given m
  pairs ← byte_counted read_pair
  done (record { face = face; given = given; pairs = pairs })

-- "16-bit face count (to 64), face numbers"
pub record Family : Type 0 where
  pub members : List ℕ

unfoldable pub read_family : ℕ → Reader Family
read_family faces = do
  members ← counted most_places (face_number faces)
  done (record { members = members })

-- "16-bit most offers, ratio, style, weight, then two lists (families, fallbacks), each a byte count and 16-bit numbers"
pub record Request : Type 0 where
  pub most : ℕ
  pub attributes : Attributes
  pub families : List ℕ
  pub fallbacks : List ℕ

unfoldable pub read_requested : Reader Attributes
read_requested = do
  width ← ratio
  style ← read_style
  weight ← value
  done (attributes_of width style weight)

unfoldable pub read_request : Reader Request
read_request = do
  most ← half
  attributes ← read_requested
  families ← byte_counted half
  fallbacks ← byte_counted half
  done (record { most = most; attributes = attributes; families = families; fallbacks = fallbacks })
