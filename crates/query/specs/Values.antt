-- Section 6: what stands at a position of an accepted job, as the code reads it there. No promise to a user cites this.
use Rattle.std.specs.Prelude.{ℕ, ◌+◌, ◌*◌, cond, List, eqb, Float, get_or, take, drop, None, Some}
use Rattle.std.specs.Float.{binary32}
use Rattle.std.specs.Float.Ieee.{of_bits}
use Rattle.std.specs.Float.Ieee.Scale.{finite}
use Rattle.font.specs.First.{tabulate}
use Rattle.font.specs.Single.{single}
use Rattle.font.specs.Tables.{u16_at, u32_at}
use Rattle.font.specs.Collection.{is_collection}
use Rattle.font.specs.StatedAttributes.{bit}
use Rattle.font.specs.Attributes.{attributes_of}
use Rattle.font.specs.declared.attributes.Angle.TheVariants.{Unstated, Degrees}
use Rattle.font.specs.declared.attributes.FontStyle.{FontStyle}
use Rattle.font.specs.declared.attributes.Attributes.{Attributes}
use Rattle.font.specs.declared.overrides.FontInfoOverride.{FontInfoOverride}
use Rattle.query.specs.declared.fields.Behind.{Behind}
use Rattle.query.specs.Sizes.{face_head, font_number_size, override_mask, override_ratio, override_style, override_weight, override_count, override_head, pair_size, request_attributes, attributes_style, attributes_weight, request_head}
use Rattle.query.specs.Entries.{style_of_kind, Face, Pair, Override, Request}

-- "Ratio, angle, weight and values are 32-bit single bits." An accepted job has finite numbers alone, and 0 stands for others
unfoldable pub number_at : List ℕ → ℕ → Float
number_at s p = cond (finite (of_bits binary32 (u32_at s p))) (of_bits binary32 (u32_at s p)) (single 0)

-- "A style is a kind byte (0 normal, 1 italic, 2 oblique unstated, 3 stated) and angle, zero unless kind 3."
unfoldable pub style_at : List ℕ → ℕ → FontStyle
style_at s p = style_of_kind (get_or s p 0) (cond (eqb (get_or s p 0) 3) (Degrees (number_at s (p + 1))) Unstated)

-- 16-bit numbers, one after another
unfoldable pub numbers_at : List ℕ → ℕ → ℕ → List ℕ
numbers_at s p n = tabulate (λ i. u16_at s (p + 2 * i)) n

-- ---- faces: "held byte 0 or 1, 32-bit length, font file", and the number behind a collection's file

unfoldable pub file_at : List ℕ → ℕ → List ℕ
file_at s p = take (u32_at s (p + 1)) (drop (p + face_head) s)

abbrev pub file_end : List ℕ → ℕ → ℕ
file_end s p = p + face_head + u32_at s (p + 1)

-- behind a file that ends at a position
unfoldable pub number_behind : List ℕ → ℕ → List ℕ → ℕ
number_behind s end file = cond (is_collection file) (u16_at s end) 0

unfoldable pub behind_number : List ℕ → ℕ → ℕ
behind_number file end = cond (is_collection file) (end + font_number_size) end

abbrev pub behind_file : List ℕ → ℕ → List ℕ → Behind
behind_file s end file = record { number = number_behind s end file; next = behind_number file end }

unfoldable pub face_at : List ℕ → ℕ → Face
face_at s p =
    record { held = eqb (get_or s p 0) 1; font = record { file = file_at s p; number = number_behind s (file_end s p) (file_at s p) } }

abbrev pub face_end : List ℕ → ℕ → ℕ
face_end s p = behind_number (file_at s p) (file_end s p)

-- ---- overrides: "16-bit face, mask byte (1 width, 2 style, 4 weight), ratio, style, weight, axis pair count byte, pairs of tag and value"

unfoldable pub given_at : List ℕ → ℕ → FontInfoOverride
given_at s p =
    record {
      width = cond (bit 0 (get_or s (p + override_mask) 0)) (Some (record { ratio = number_at s (p + override_ratio) })) None;
      style = cond (bit 1 (get_or s (p + override_mask) 0)) (Some (style_at s (p + override_style))) None;
      weight = cond (bit 2 (get_or s (p + override_mask) 0)) (Some (record { value = number_at s (p + override_weight) })) None;
    }

unfoldable pub pair_at : List ℕ → ℕ → Pair
pair_at s p = record { tag = u32_at s p; value = number_at s (p + 4) }

-- pairs, one after another
unfoldable pub pairs_at : List ℕ → ℕ → ℕ → List Pair
pairs_at s p n = tabulate (λ k. pair_at s (p + pair_size * k)) n

unfoldable pub override_at : List ℕ → ℕ → Override
override_at s p = record { face = u16_at s p; given = given_at s p; pairs = pairs_at s (p + override_head) (get_or s (p + override_count) 0) }

unfoldable pub override_end : List ℕ → ℕ → ℕ
override_end s p = p + override_head + pair_size * get_or s (p + override_count) 0

-- ---- requests: "16-bit most offers, ratio, style, weight, then two lists (families, fallbacks), each a byte count and 16-bit numbers"

unfoldable pub attributes_at : List ℕ → ℕ → Attributes
attributes_at s p = attributes_of (number_at s p) (style_at s (p + attributes_style)) (number_at s (p + attributes_weight))

unfoldable pub list_at : List ℕ → ℕ → List ℕ
list_at s p = numbers_at s (p + 1) (get_or s p 0)

unfoldable pub list_end : List ℕ → ℕ → ℕ
list_end s p = p + 1 + 2 * get_or s p 0

unfoldable pub request_at : List ℕ → ℕ → Request
request_at s p =
    record {
      most = u16_at s p;
      attributes = attributes_at s (p + request_attributes);
      families = list_at s (p + request_head);
      fallbacks = list_at s (list_end s (p + request_head));
    }
