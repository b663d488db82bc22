-- The reading of a number: which numbers have one.
use Prim.Native.Nat.{ℕ}
use mathlib.Core.Path.{◌≡◌, refl}
use mathlib.Core.Bool.{Bool, true, false, cond, ◌||◌}
use native.Mathlib.Omega.{arith}
use mathlib.Core.List.{List}
use lib.Dec.{eqb}
use borrow.Author.Tests.{eqb-true}
use Rattle.std.specs.Prelude.{Ok, Err}
use Rattle.font.specs.declared.attributes.Attributes.{Attributes}
use Rattle.font.specs.declared.refusal.Refusal.{Refusal}
use Rattle.font.specs.declared.refusal.Refusal.TheVariants.{Unknown, DamagedTable}
use Rattle.font.specs.declared.slant.Reading.{Reading}
use Rattle.font.specs.declared.slant.Reading.TheVariants.{AsStated, Opposite}
use Rattle.font.specs.Refusals.{number}
use Rattle.font.specs.Attributes.{default_attributes}
use Rattle.font.specs.Tables.{find_table, part_of, table_data, hand_out, handed_table, is_damaged, directory_fits}
use Rattle.font.specs.StatedAttributes.{present, from_tables, needed_damaged, loses_needed, read_attributes, stated_in}
use Rattle.font.specs.Slant.{is_reading, reading_number, reading_of}

pub reading_stands : (r : Reading) → is_reading (reading_number r) ≡ true
unfolding is_reading reading_number
reading_stands AsStated = refl
reading_stands Opposite = refl

-- a number that has a reading is its number
pub of_reading : (n : ℕ) (r : Reading) → Ok r ≡ reading_of n → n ≡ reading_number r
unfolding reading_of reading_number
of_reading n r = go (eqb n 0) (eqb n 1) refl refl
  where
    go : (a b : Bool) → eqb n 0 ≡ a → eqb n 1 ≡ b → Ok r ≡ cond a (Ok AsStated) (cond b (Ok Opposite) (Err Unknown)) → n ≡ reading_number r
    go true b e h z = let same : r ≡ AsStated = cc in rw same (eqb-true n 0 e)
    go false true e h z = let same : r ≡ Opposite = cc in rw same (eqb-true n 1 h)
    go false false e h z = absurd (let z : ◌≡◌ {A = ℕ} 0 1 = cc in omega arith)

-- one that is refused has none, and is unknown
pub of_none : (n : ℕ) (why : Refusal) → Err why ≡ reading_of n → (is_reading n ≡ false) × (why ≡ Unknown)
unfolding reading_of is_reading
of_none n why = go (eqb n 0) (eqb n 1)
  where
    go : (a b : Bool) → Err why ≡ cond a (Ok AsStated) (cond b (Ok Opposite) (Err Unknown)) → ((a || b) ≡ false) × (why ≡ Unknown)
    go true b z = absurd (let z : ◌≡◌ {A = ℕ} 0 1 = cc in omega arith)
    go false true z = absurd (let z : ◌≡◌ {A = ℕ} 0 1 = cc in omega arith)
    go false false z = (refl, cc)

-- ---- the attributes that a font states, by the reading of a number

module _ (reading : ℕ) (file : List ℕ) (start : ℕ) where
  pub stated_none : (why : Refusal) → Err why ≡ reading_of reading → stated_in (Err why) ≡ read_attributes reading file start
  unfolding stated_in read_attributes number
  stated_none why e = let none = of_none reading why e in rw (none.0, none.1)

  module _ (r : Reading) (e : Ok r ≡ reading_of reading) where
    reads : is_reading reading ≡ true
    reads = rw (of_reading reading r e) (reading_stands r)

    pub stated_lost : loses_needed file start ≡ true → stated_in (Err DamagedTable) ≡ read_attributes reading file start
    unfolding stated_in read_attributes number
    stated_lost l = rw (reads, l)

    pub stated_kept : (a : Attributes) → loses_needed file start ≡ false → a ≡ from_tables (reading_number r) file start
        → stated_in (Ok a) ≡ read_attributes reading file start
    unfolding stated_in read_attributes
    stated_kept a l f = rw (reads, l, f, of_reading reading r e)

    -- a file with no directory there has no table
    pub stated_default : directory_fits file start ≡ false → stated_in (Ok default_attributes) ≡ read_attributes reading file start
    unfolding stated_in read_attributes loses_needed needed_damaged handed_table hand_out is_damaged from_tables present table_data find_table part_of
    stated_default d = rw reads (simp d)
