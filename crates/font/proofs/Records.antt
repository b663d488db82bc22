use Rattle.std.specs.Prelude.{None, Some}
-- Laws of `cmap` records.
use Prim.Native.Nat.{ℕ, ◌+◌, ◌-◌, ◌*◌, ◌/◌, ◌≤◌, ◌<◌, min}
use mathlib.Core.Path.{◌≡◌, refl, sym, ◌∙◌}
use mathlib.Core.Bool.{Bool, true, false, ◌&&◌, ◌||◌, cond}
use mathlib.Core.List.{List}
use mathlib.Core.Logic.{◌⊎◌, inl, inr}
use native.Mathlib.Omega.{arith}
use lib.ListN.{length}
use lib.Dec.{leb, ltb, eqb}
use borrow.Author.Tests.{eqb-true, leb-true, le-leb, lt-leb, lt-ltb, le-ltb, ltb-true, ltb-false}
use Rattle.font.specs.declared.tables.Table.{Table}
use Rattle.font.specs.declared.tables.Table.TheVariants.{Absent, Damaged, Found}
use Rattle.font.specs.declared.charmap.CharmapIndex.{CharmapIndex}
use denote.Enum.Bare.{sameb}
use Rattle.std.specs.Prelude.{Option, is_some, IfSome}
use Rattle.std.specs.Ordering.{partial_lt}
use Rattle.font.specs.contracts.charmap.Class.{the_type}
use Rattle.font.specs.contracts.charmap.ClassPartialOrd.TheImpl.{partial_cmp-value}
use Rattle.font.specs.declared.charmap.Class.{Class}
use Rattle.font.specs.declared.charmap.Class.TheVariants.{Full, Basic, Symbol, MacRoman}
use Rattle.font.specs.declared.charmap.BestRecord.{BestRecord}
use Rattle.font.specs.First.{some, least_below}
use Rattle.font.specs.Tables.{u16_at, find_table, part_of, table_data}
use Rattle.font.specs.Charmap.{class_number, best_number, is_pair, class_of, subtable_offset_of, lies_in, pair_class, qualifies, record_class, some_qualifies, best_class, best_record, index_of, index_in, charmap_index_of}
use Rattle.font.specs.Font.{has_index}
use Rattle.font.proofs.Fields.{out16}
use Rattle.font.proofs.First.{some_same}
use Rattle.font.proofs.Least.{Best, best_new, best_rest, best_zero, best_done, at_most, first_below, attained, some_below}

-- a record that does not lie in the table has no class
pub past : (cmap : List ℕ) (k : ℕ) → length cmap < 12 + 8 * k → record_class cmap k ≡ 4
unfolding record_class qualifies lies_in
past cmap k h = simp (lt-leb (12 + 8 * k) (length cmap) h)

-- the best record of those before such a one is the best of all
pub best_before : (cmap : List ℕ) (m n c b : ℕ) → length cmap < 12 + 8 * m → m ≤ n → Best 4 (record_class cmap) m c b
    → Best 4 (record_class cmap) n c b
best_before cmap m n c b h l w = best_rest 4 (record_class cmap) m n c b l (λ k g. omega (arith, past cmap k (omega arith))) w

-- so it is where no more records are looked at than lie whole in the table
pub best_of_whole : (cmap : List ℕ) (m n c b : ℕ) → m ≡ min n ((length cmap - 4) / 8) → Best 4 (record_class cmap) m c b → Best 4 (record_class cmap) n c b
best_of_whole cmap m n c b e w = go (ltb m n) refl
  where
    go : (t : Bool) → ltb m n ≡ t → Best 4 (record_class cmap) n c b
    go true h = let l = ltb-true m n h in best_before cmap m n c b (omega arith) (omega arith) w
    go false h = let same : m ≡ n = omega (arith, ltb-false m n h) in rw (← same) w

-- ---- the numbers of classes

pub class_low : (k : Class) → class_number (Some k) < 4
unfolding class_number
class_low Full = omega arith
class_low Basic = omega arith
class_low Symbol = omega arith
class_low MacRoman = omega arith

-- there is a class where the number is below 4
pub is_class : (k : Option Class) → is_some k ≡ ltb (class_number k) 4
unfolding class_number
is_class None = refl
is_class (Some Full) = refl
is_class (Some Basic) = refl
is_class (Some Symbol) = refl
is_class (Some MacRoman) = refl

-- classes are compared as their numbers are
pub class_order : (a b : Class) → partial_lt partial_cmp-value.it a b ≡ ltb (class_number (Some a)) (class_number (Some b))
unfolding class_number
class_order Full Full = refl
class_order Full Basic = refl
class_order Full Symbol = refl
class_order Full MacRoman = refl
class_order Basic Full = refl
class_order Basic Basic = refl
class_order Basic Symbol = refl
class_order Basic MacRoman = refl
class_order Symbol Full = refl
class_order Symbol Basic = refl
class_order Symbol Symbol = refl
class_order Symbol MacRoman = refl
class_order MacRoman Full = refl
class_order MacRoman Basic = refl
class_order MacRoman Symbol = refl
class_order MacRoman MacRoman = refl

pub full_is : (k : Class) → sameb the_type k Full ≡ eqb (class_number (Some k)) 0
unfolding class_number
full_is Full = refl
full_is Basic = refl
full_is Symbol = refl
full_is MacRoman = refl

pub symbol_is : (k : Class) → sameb the_type k Symbol ≡ eqb (class_number (Some k)) 2
unfolding class_number
symbol_is Full = refl
symbol_is Basic = refl
symbol_is Symbol = refl
symbol_is MacRoman = refl

pub mac_roman_is : (k : Class) → sameb the_type k MacRoman ≡ eqb (class_number (Some k)) 3
unfolding class_number
mac_roman_is Full = refl
mac_roman_is Basic = refl
mac_roman_is Symbol = refl
mac_roman_is MacRoman = refl

-- where a best record stands; 0 for none
unfoldable pub place : Option BestRecord → ℕ
place None = 0
place (Some best) = best.i

-- ---- the class of a record

class_at_most : (p e : ℕ) → class_of p e ≤ 4
unfolding class_of
class_at_most p e = go (is_pair p e 3 10 || (is_pair p e 0 4 || is_pair p e 0 6)) (is_pair p e 3 1 || (eqb p 0 && leb e 3)) (is_pair p e 3 0) (is_pair p e 1 0)
  where
    go : (a b c d : Bool) → cond a 0 (cond b 1 (cond c 2 (cond d 3 4))) ≤ 4
    go true b c d = omega arith
    go false true c d = omega arith
    go false false true d = omega arith
    go false false false true = omega arith
    go false false false false = omega arith

-- of a record that lies in the table, as two bytes at its offset do, it is its pair's
pub class_in : (cmap : List ℕ) (i : ℕ) → 12 + 8 * i ≤ length cmap → subtable_offset_of cmap i + 2 ≤ length cmap → record_class cmap i ≡ pair_class cmap i
unfolding record_class qualifies lies_in pair_class
class_in cmap i h l = rw (le-leb (12 + 8 * i) (length cmap) h, le-leb (subtable_offset_of cmap i + 2) (length cmap) l) (go (ltb (pair_class cmap i) 4) refl)
  where
    go : (b : Bool) → ltb (pair_class cmap i) 4 ≡ b → cond b (pair_class cmap i) 4 ≡ pair_class cmap i
    go true e = refl
    go false e = omega (arith, ltb-false (pair_class cmap i) 4 e, class_at_most (u16_at cmap (4 + 8 * i)) (u16_at cmap (6 + 8 * i)))

-- a record has a class exactly where it qualifies
pub has_class : (cmap : List ℕ) (i : ℕ) → ltb (record_class cmap i) 4 ≡ qualifies cmap i
unfolding record_class qualifies
has_class cmap i = go (lies_in cmap i) (ltb (pair_class cmap i) 4) refl
  where
    go : (a b : Bool) → ltb (pair_class cmap i) 4 ≡ b → ltb (cond (a && b) (pair_class cmap i) 4) 4 ≡ (a && b)
    go true true e = e
    go true false e = refl
    go false b e = refl

-- one that qualifies lies in the table, as two bytes at its offset do
pub inside : (cmap : List ℕ) (i : ℕ) → qualifies cmap i ≡ true → (12 + 8 * i ≤ length cmap) × (subtable_offset_of cmap i + 2 ≤ length cmap)
unfolding qualifies lies_in
inside cmap i = go (leb (12 + 8 * i) (length cmap)) (leb (subtable_offset_of cmap i + 2) (length cmap)) refl refl
  where
    go : (a b : Bool) → leb (12 + 8 * i) (length cmap) ≡ a → leb (subtable_offset_of cmap i + 2) (length cmap) ≡ b
        → ((a && b) && ltb (pair_class cmap i) 4) ≡ true
        → (12 + 8 * i ≤ length cmap) × (subtable_offset_of cmap i + 2 ≤ length cmap)
    go true true e h q = (leb-true (12 + 8 * i) (length cmap) e, leb-true (subtable_offset_of cmap i + 2) (length cmap) h)
    go true false e h q = absurd (let z : ◌≡◌ {A = ℕ} 0 1 = cc in omega arith)
    go false b e h q = absurd (let z : ◌≡◌ {A = ℕ} 0 1 = cc in omega arith)

-- ---- whether there is a best record

-- there is one exactly where some record qualifies
pub best_qualifies : (cmap : List ℕ) → ltb (best_class cmap) 4 ≡ some_qualifies cmap
unfolding best_class some_qualifies
best_qualifies cmap = some_below 4 (record_class cmap) (u16_at cmap 2) ∙ some_same (λ i. ltb (record_class cmap i) 4) (qualifies cmap) (u16_at cmap 2) (has_class cmap)

-- where one does, the best record is of the table and qualifies
module _ (cmap : List ℕ) (q : some_qualifies cmap ≡ true) where
  pub best_low : best_class cmap < 4
  best_low = ltb-true (best_class cmap) 4 (best_qualifies cmap ∙ q)

  pub best_stated : best_record cmap < u16_at cmap 2
  unfolding best_class best_record
  best_stated = first_below 4 (record_class cmap) (u16_at cmap 2) best_low

  pub best_qualified : qualifies cmap (best_record cmap) ≡ true
  unfolding best_class best_record
  best_qualified =
      sym (has_class cmap (best_record cmap))
      ∙ lt-ltb (record_class cmap (best_record cmap)) 4 (omega (arith, attained 4 (record_class cmap) (u16_at cmap 2) best_low, best_low))

-- the first record that has a class is the best so far
pub best_first : (cmap : List ℕ) (k : Class) (n : ℕ) → class_number (Some k) ≡ record_class cmap n → least_below 4 (record_class cmap) n ≡ 4
    → Best 4 (record_class cmap) (n + 1) (class_number (Some k)) n
best_first cmap k n e none =
    let so_far : Best 4 (record_class cmap) n 4 n = record { least = sym none; before = λ h. omega arith; first_of = λ h. absurd (omega arith) } in
    rw e (best_new 4 (record_class cmap) n 4 n so_far (omega (arith, e, class_low k)))

-- what a loop that keeps the best record ends with
pub best_found : (cmap : List ℕ) (best : Option BestRecord) → Best 4 (record_class cmap) (u16_at cmap 2) (best_number best) (place best)
    → (best_number best ≡ best_class cmap) × IfSome best (λ b. (b.i ≡ best_record cmap) × (12 + 8 * b.i ≤ length cmap))
unfolding best_number place best_class best_record
best_found cmap None w = (w.least, tt)
best_found cmap (Some best) w =
    let low = class_low best.class in
    let at = (best_done 4 (record_class cmap) (u16_at cmap 2) (class_number (Some best.class)) best.i w).1 low in
    let q : some_qualifies cmap ≡ true = sym (best_qualifies cmap) ∙ rw (← w.least) (lt-ltb (class_number (Some best.class)) 4 low) in
    (w.least, (at, omega (arith, at, (inside cmap (best_record cmap) (best_qualified cmap q)).0)))

-- no later record is better than one of the first class of all
pub full_found : (cmap : List ℕ) (k : Class) (i : ℕ) → i < u16_at cmap 2 → sameb the_type k Full ≡ true → Best 4 (record_class cmap) (i + 1) (class_number (Some k)) i
    → (class_number (Some k) ≡ best_class cmap) × ((i ≡ best_record cmap) × (12 + 8 * i ≤ length cmap))
unfolding best_number place
full_found cmap k i l full w =
    let zero = eqb-true (class_number (Some k)) 0 (sym (full_is k) ∙ full) in
    best_found cmap (Some (record { class = k; i = i })) (best_zero 4 (record_class cmap) (i + 1) (u16_at cmap 2) (class_number (Some k)) i zero (omega arith) w)

-- a record that has a class
pub some_class : (cmap : List ℕ) (i : ℕ) → i < u16_at cmap 2 → record_class cmap i < 4 → true ≡ some_qualifies cmap
unfolding best_class
some_class cmap i l h = sym (lt-ltb (best_class cmap) 4 (omega (arith, at_most 4 (record_class cmap) (u16_at cmap 2) i l))) ∙ best_qualifies cmap

-- no record has one
pub no_class : (cmap : List ℕ) (b : ℕ) → Best 4 (record_class cmap) (u16_at cmap 2) 4 b → false ≡ some_qualifies cmap
unfolding best_class
no_class cmap b h = sym (le-ltb (best_class cmap) 4 (omega (arith, h.least))) ∙ best_qualifies cmap

-- a table without its 4 bytes states none
pub no_records : (cmap : List ℕ) → length cmap < 4 → false ≡ some_qualifies cmap
unfolding some_qualifies some
no_records cmap l = rw (← out16 cmap 2 (omega arith))

-- a table gives an index where a record qualifies
pub table_has : (offset : ℕ) (cmap : List ℕ) → has_index (index_of offset cmap) ≡ some_qualifies cmap
unfolding has_index index_of
table_has offset cmap = go (some_qualifies cmap) _
  where
    go : (b : Bool) (index : CharmapIndex) → has_index (cond b (Some index) None) ≡ b
    go true index = refl
    go false index = refl

pub no_index_of : (offset : ℕ) (cmap : List ℕ) → 4 ≡ best_class cmap → None ≡ index_of offset cmap
unfolding index_of
no_index_of offset cmap e = rw (← best_qualifies cmap, ← e)

-- a table that is not found gives none
pub none_in : (font : List ℕ) (start : ℕ) (t : Table) → t ≡ find_table font start 0x636D6170 4 → (t ≡ Damaged) ⊎ (t ≡ Absent) → None ≡ charmap_index_of font start
unfolding charmap_index_of index_in
none_in font start t e (inl h) = rw (sym e ∙ h)
none_in font start t e (inr h) = rw (sym e ∙ h)

-- so does a font; a table that is not found has no records
pub font_has : (font : List ℕ) (start : ℕ) → has_index (charmap_index_of font start) ≡ some_qualifies (table_data font start 0x636D6170 4)
unfolding has_index charmap_index_of index_in table_data part_of some_qualifies some u16_at
font_has font start = go (find_table font start 0x636D6170 4)
  where
    go : (t : Table) → has_index (index_in font t) ≡ some_qualifies (part_of font t)
    go Absent = refl
    go Damaged = refl
    go (Found offset len) = table_has offset (part_of font (Found offset len))
