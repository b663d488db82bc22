-- Whether a table that the attributes need is damaged, by the answers of the lookups in their turn. Assumes nothing.
use Prim.Native.Nat.{ℕ, ◌+◌, ◌-◌}
use mathlib.Core.Path.{◌≡◌}
use mathlib.Core.Bool.{Bool, true, false}
use mathlib.Core.List.{List}
use native.Mathlib.Nat.{add-sub_cancel_left}
use lib.ListN.{take, drop}
use Rattle.font.specs.declared.tables.Table.TheVariants.{Absent, Damaged, Found}
use Rattle.font.specs.Tables.{find_table, part_of, hand_out, handed_table, is_damaged}
use Rattle.font.specs.StatedAttributes.{needs_post, needed_damaged, loses_needed}

module _ (font : List ℕ) (start : ℕ) where
  -- OS/2 is found, and its part of the file asks for `post` or not
  module _ (o n : ℕ) (found : find_table font start 0x4F532F32 78 ≡ Found o n) (b : Bool) (asked : b ≡ needs_post (take (o + n - o) (drop o font))) where
    needs : b ≡ needs_post (part_of font (Found o n))
    unfolding part_of
    needs = rw (add-sub_cancel_left) at asked

    pub by_post : b ≡ true → is_damaged (handed_table font start 0x706F7374 32) ≡ loses_needed font start
    unfolding loses_needed needed_damaged handed_table hand_out
    by_post e = rw (found, ← needs, e)

    pub by_none : b ≡ false → false ≡ loses_needed font start
    unfolding loses_needed needed_damaged handed_table hand_out
    by_none e = rw (found, ← needs, e)

  pub by_os2 : find_table font start 0x4F532F32 78 ≡ Damaged → true ≡ loses_needed font start
  unfolding loses_needed needed_damaged handed_table hand_out
  by_os2 e = rw e

  pub by_head : find_table font start 0x4F532F32 78 ≡ Absent → is_damaged (handed_table font start 0x68656164 54) ≡ loses_needed font start
  unfolding loses_needed needed_damaged handed_table hand_out
  by_head e = rw e
