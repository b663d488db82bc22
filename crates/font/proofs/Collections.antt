-- Laws of a file's fonts: where each of them begins, and what is no collection.
use Prim.Native.Nat.{ℕ, ◌+◌, ◌*◌, ◌≤◌, ◌<◌}
use mathlib.Core.Path.{◌≡◌, refl}
use mathlib.Core.Bool.{Bool, true, false, cond}
use mathlib.Core.List.{List}
use native.Mathlib.Omega.{arith}
use lib.ListN.{length}
use lib.Dec.{ltb}
use borrow.Author.Tests.{le-leb, lt-leb, lt-ltb, le-ltb}
use Rattle.font.specs.Tables.{u32_at}
use Rattle.font.specs.Collection.{is_collection, font_count, offsets_fit, offset_of, font_start}
use Rattle.font.proofs.Fields.{out32}

-- a file of fewer than four bytes is no collection
pub short_is_lone : (file : List ℕ) → length file < 4 → is_collection file ≡ false
unfolding is_collection
short_is_lone file l = rw (← out32 file 0 (omega arith)) refl

module _ (file : List ℕ) (number : ℕ) where
  -- a number that is not below the count
  pub none : font_count file ≤ number → length file ≡ font_start file number
  unfolding font_start
  none l = rw (le-ltb number (font_count file) l)

  module _ (is : is_collection file ≡ true) where
    pub stated : u32_at file 8 ≡ font_count file
    unfolding font_count
    stated = rw is

    -- where all offsets lie in the file, at that of the number
    pub at_offset : number < u32_at file 8 → 12 + 4 * u32_at file 8 ≤ length file → u32_at file (12 + 4 * number) ≡ font_start file number
    unfolding font_start offset_of offsets_fit
    at_offset l m =
        rw (lt-ltb number (font_count file) (omega (arith, stated)), is, le-leb (12 + 4 * font_count file) (length file) (omega (arith, stated)))

    -- and else nowhere
    pub offsets_cut : length file < 12 + 4 * u32_at file 8 → length file ≡ font_start file number
    unfolding font_start offset_of offsets_fit
    offsets_cut m = rw (is, lt-leb (12 + 4 * font_count file) (length file) (omega (arith, stated))) (go (ltb number (font_count file)))
      where
        go : (b : Bool) → length file ≡ cond b (length file) (length file)
        go true = refl
        go false = refl

  module _ (lone : is_collection file ≡ false) where
    pub one : font_count file ≡ 1
    unfolding font_count
    one = rw lone

    -- a lone font begins where its file does
    pub at_first : number ≡ 0 → 0 ≡ font_start file number
    unfolding font_start offset_of
    at_first e = rw (lt-ltb number (font_count file) (omega (arith, one, e)), lone)

    pub no_other : (number ≡ 0 → ⊥) → length file ≡ font_start file number
    no_other h = none (omega (arith, one, h))
