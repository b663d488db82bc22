-- Section 6: the fields of a job. "Job and output are big-endian".
use Rattle.std.specs.Prelude.{ℕ, ◌+◌, Bool, true, false, cond, List, length, get_or, take, drop, leb, ltb, eqb, Float}
use Rattle.std.specs.Float.{binary32}
use Rattle.std.specs.Float.Ieee.{of_bits}
use Rattle.std.specs.Float.Ieee.Scale.{finite}
use Rattle.font.specs.Single.{accepted_ratio}
use Rattle.font.specs.Tables.{u16_at, u32_at}
use Rattle.font.specs.Collection.{is_collection, header_fits, font_count}
use Rattle.font.specs.Font.{font_refusal}
use Rattle.query.specs.Reader.{At}
use Rattle.query.specs.Reader.{Refusal, past_end, over_limit, not_held, bad_directory, no_charmap, many_axes, no_face, unknown, bad_number, no_font, damaged_table, Reader, refused, got, done, field, tested, many, ◌>>=◌}

-- fields of 1, 2 and 4 bytes
unfoldable pub byte : Reader ℕ
byte = field 1 (λ s p. get_or s p 0)

unfoldable pub half : Reader ℕ
half = field 2 u16_at

unfoldable pub word : Reader ℕ
word = field 4 u32_at

-- "Ratio, angle, weight and values are 32-bit single bits."
unfoldable pub single : Reader Float
single = field 4 (λ s p. of_bits binary32 (u32_at s p))

-- 26, "outside section 1": "Weights, angles and axis values are finite; width ratios are 0 to 16."
unfoldable pub ratio : Reader Float
ratio = tested bad_number accepted_ratio single

unfoldable pub value : Reader Float
value = tested bad_number finite single

-- 19, a count "over its limit"
unfoldable pub count : ℕ → Reader ℕ
count limit = tested over_limit (λ n. leb n limit) half

-- entries "each after a 16-bit count"
unfoldable pub counted : {A : Type 0} → ℕ → Reader A → Reader (List A)
counted limit r = do
  n ← count limit
  many n r

-- entries after a byte count: "Byte counts have no limit."
unfoldable pub byte_counted : {A : Type 0} → Reader A → Reader (List A)
byte_counted r = do
  n ← byte
  many n r

-- "held byte 0 or 1"; 20 is "held not 0 or 1"
unfoldable pub held_byte : Reader ℕ
held_byte = tested not_held (λ b. leb b 1) byte

-- "16-bit face"; 24 is a face number "not in the job", which has n faces
unfoldable pub face_number : ℕ → Reader ℕ
face_number n = tested no_face (λ i. ltb i n) half

-- "mask byte (1 width, 2 style, 4 weight)"; 25 is "unknown"
unfoldable pub mask : Reader ℕ
mask = tested unknown (λ m. leb m 7) byte

-- "a kind byte (0 normal, 1 italic, 2 oblique unstated, 3 stated)"; 25 is "unknown"
unfoldable pub kind : Reader ℕ
kind = tested unknown (λ k. leb k 3) byte

-- "A spare field is zero when all its bits are clear."; 25 is "spare field not zero"
unfoldable pub spare_byte : Reader ℕ
spare_byte = tested unknown (λ b. eqb b 0) byte

unfoldable pub spare_word : Reader ℕ
spare_word = tested unknown (λ b. eqb b 0) word

-- a number that is given, or a spare field that stands for `none`
unfoldable pub or_spare : {A : Type 0} → Bool → A → Reader A → Reader A
or_spare true none r = r
or_spare false none r = do
  b ← spare_word
  done none

-- a font file, and which of its fonts it is: 0 for a lone font
pub record NumberedFont : Type 0 where
  pub file : List ℕ
  pub number : ℕ

-- 21, 31, 22 and 23, by the font layer's number; 30 is met before, at the font number
unfoldable pub font_row : ℕ → Refusal
font_row n = cond (eqb n 21) bad_directory (cond (eqb n 31) damaged_table (cond (eqb n 22) no_charmap many_axes))

-- the bytes of a font file; past the end they are refused at the length field
unfoldable pub font_bytes : ℕ → ℕ → Reader (List ℕ)
font_bytes place n s p = cond (leb (p + n) (length s)) (got (take n (drop p s)) (p + n)) (refused past_end place)

-- "32-bit length, font file": one field, whose position is "a font's: its length field"
unfoldable pub sized_file : Reader (List ℕ)
sized_file s p = (word >>= font_bytes p) s p

-- 30: "the font number is not below the count"
unfoldable pub number_below : ℕ → Reader ℕ
number_below n = tested no_font (λ i. ltb i n) half

unfoldable pub refused_at : {A : Type 0} → Refusal → ℕ → Reader A
refused_at why place s p = refused why place

-- A collection's file "is followed by a 16-bit font number". "(30, placed at the number: ..; after the 12 header bytes are found and then the number itself, whose
-- lack is 18, before any other 21.)" The length field lies at `place`.
unfoldable pub font_number : ℕ → List ℕ → Reader ℕ
font_number place file =
    cond (is_collection file) (cond (header_fits file) (number_below (font_count file)) (refused_at bad_directory place)) (done 0)

-- a font that the font layer takes, or its refusal at the length field
unfoldable pub font_taken : ℕ → NumberedFont → Reader NumberedFont
font_taken place font s p =
    cond (eqb (font_refusal font.file font.number) 0) (got font p) (refused (font_row (font_refusal font.file font.number)) place)

unfoldable pub numbered : ℕ → List ℕ → Reader NumberedFont
numbered place file = do
  i ← font_number place file
  font_taken place (record { file = file; number = i })

-- "32-bit length, font file", and a collection's font number. Every other refusal of the font, met after the number was read, is placed at the length field.
unfoldable pub font_file : Reader NumberedFont
font_file s p = (sized_file >>= numbered p) s p

-- ---- how a tested field ends, which is what the code of a field answers

unfoldable pub field_end : List ℕ → ℕ → ℕ → Bool → ℕ → At
field_end s p n ok why =
    cond (leb (p + n) (length s))
    (cond ok (record { refusal = 0; at = p + n }) (record { refusal = why; at = p }))
    (record { refusal = 18; at = p })
