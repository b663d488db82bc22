-- The fonts of a file, from OpenType's "Font Collections": the TTC header. Both its versions begin with `ttcTag` (`ttcf`), the version's two numbers, `numFonts` at 8
-- and `tableDirectoryOffsets` from 12; nothing else of it is looked at.
use Rattle.std.specs.Prelude.{ℕ, ◌+◌, ◌*◌, Bool, cond, List, length, leb, ltb, eqb}
use Rattle.font.specs.Tables.{u32_at}

-- "files that start with `ttcf`"; every other file is that of a lone font
unfoldable pub is_collection : List ℕ → Bool
is_collection file = eqb (u32_at file 0) 0x74746366

-- "the 12 header bytes": a collection's, and those of a lone font's directory
unfoldable pub header_fits : List ℕ → Bool
header_fits file = leb 12 (length file)

-- "The header has the font count at 8", and none where it is cut; a lone font's file has one
unfoldable pub font_count : List ℕ → ℕ
font_count file = cond (is_collection file) (u32_at file 8) 1

-- "all its offsets" lie in the file
unfoldable pub offsets_fit : List ℕ → Bool
offsets_fit file = leb (12 + 4 * font_count file) (length file)

-- where the directory of the font of a number begins: "32-bit offsets from 12", and a lone font's at the file's first byte. The end of the file, where no directory
-- fits, stands for none.
unfoldable pub offset_of : List ℕ → ℕ → ℕ
offset_of file number = cond (is_collection file) (cond (offsets_fit file) (u32_at file (12 + 4 * number)) (length file)) 0

unfoldable pub font_start : List ℕ → ℕ → ℕ
font_start file number = cond (ltb number (font_count file)) (offset_of file number) (length file)
