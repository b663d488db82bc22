-- "A damaged OS/2, `head` or `post` that the attributes need refuses the font." Refusal 31 is given exactly for it (`proofs/Damage.antt`).
use Rattle.std.specs.Prelude.{ℕ, ◌<◌, ◌≡◌, true, false, List}
use Rattle.font.specs.declared.tables.Table.TheVariants.{Absent, Damaged, Found}
use Rattle.font.specs.Tables.{u16_at, directory_fits, find_table, part_of}
use Rattle.font.specs.Collection.{header_fits, font_count, font_start}
use Rattle.font.specs.StatedAttributes.{bit}

-- Needed are OS/2 whenever it has a record; `head` only where OS/2 has none; and `post` only where OS/2 is found and makes the face oblique: bit 0 of its fsSelection
-- is clear and bit 9 is set. A font loses what it needs where one of these is damaged:
pub data Loses (file : List ℕ) (start : ℕ) : Type 0 where
  os2 : find_table file start 0x4F532F32 78 ≡ Damaged → Loses file start
  head : find_table file start 0x4F532F32 78 ≡ Absent → find_table file start 0x68656164 54 ≡ Damaged → Loses file start
  post : (offset len : ℕ) → find_table file start 0x4F532F32 78 ≡ Found offset len
      → bit 0 (u16_at (part_of file (Found offset len)) 62) ≡ false
      → bit 9 (u16_at (part_of file (Found offset len)) 62) ≡ true
      → find_table file start 0x706F7374 32 ≡ Damaged
      → Loses file start

-- the font of a number is there, and loses what it needs
pub record LosesNumbered (file : List ℕ) (number : ℕ) : Type 0 where
  pub header : header_fits file ≡ true
  pub below : number < font_count file
  pub fits : directory_fits file (font_start file number) ≡ true
  pub loses : Loses file (font_start file number)
