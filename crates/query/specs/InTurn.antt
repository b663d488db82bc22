-- Statements beside the reader `font_file`: in which turn a face entry's font is refused, and where; a collection's, and one that loses a table. The length field lies at p. What is met
-- later can stand at an earlier byte: "30, placed at the number .. after the 12 header bytes are found and then the number itself, whose lack is 18, before any other 21".
use Rattle.std.specs.Prelude.{ℕ, ◌+◌, ◌*◌, ◌≤◌, ◌<◌, ◌≡◌, true, false, List, length, take, drop}
use Rattle.font.specs.Tables.{u16_at, u32_at}
use Rattle.font.specs.Collection.{is_collection}
use Rattle.font.specs.Font.{refusal_at}
use Rattle.font.specs.Damage.{LosesNumbered}
use Rattle.query.specs.Reader.{past_end, bad_directory, no_font, damaged_table, refused, got}
use Rattle.query.specs.Fields.{font_row, font_file}

module _ (s : List ℕ) (p : ℕ) where
  -- the file, where it ends, its count of fonts, the number behind it, and where that font begins
  abbrev pub file : List ℕ
  file = take (u32_at s p) (drop (p + 4) s)

  abbrev pub end : ℕ
  end = p + 4 + u32_at s p

  abbrev pub stated : ℕ
  stated = u32_at file 8

  abbrev pub asked : ℕ
  asked = u16_at s end

  abbrev pub start : ℕ
  start = u32_at file (12 + 4 * asked)

  -- a collection's file that lies in the job
  pub record CollectionThere : Type 0 where
    pub inside : end ≤ length s
    pub is : is_collection file ≡ true

  pub record InTurn : Type 0 where
    -- "A header without its 12 bytes .. is 21"; no number is looked for
    pub header : length file < 12 → font_file s p ≡ refused bad_directory p
    -- "the number itself, whose lack is 18"
    pub lacking : 12 ≤ length file → length s < end + 2 → font_file s p ≡ refused past_end end
    -- 30: "the font number is not below the count"
    pub over : 12 ≤ length file → end + 2 ≤ length s → stated ≤ asked → font_file s p ≡ refused no_font end
    -- "or all its offsets"
    pub offsets : 12 ≤ length file → end + 2 ≤ length s → asked < stated → length file < 12 + 4 * stated → font_file s p ≡ refused bad_directory p
    -- "or the numbered font's offset past the file", and all else that section 2 refuses in the font that begins there
    pub font : end + 2 ≤ length s → asked < stated → 12 + 4 * stated ≤ length file → (refusal_at file start ≡ 0 → ⊥) → font_file s p ≡ refused (font_row (refusal_at file start)) p
    pub taken : end + 2 ≤ length s → asked < stated → 12 + 4 * stated ≤ length file → refusal_at file start ≡ 0
        → font_file s p ≡ got (record { file = file; number = asked }) (end + 2)

  -- 31: "a needed table is damaged; after 21 and before 22". A font that is there and loses what it needs is refused so, at its length field, whatever else is wrong with it.
  pub record LostInTurn : Type 0 where
    pub lone : end ≤ length s → is_collection file ≡ false → LosesNumbered file 0 → font_file s p ≡ refused damaged_table p
    pub in_collection : end + 2 ≤ length s → is_collection file ≡ true → LosesNumbered file asked → font_file s p ≡ refused damaged_table p
