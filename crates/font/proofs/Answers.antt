-- Table lookup answers as `specs/Answers.antt` says, and no other answer means right. Assumes nothing.
use Prim.Native.Nat.{ℕ, ◌+◌, ◌≤◌, ◌<◌}
use mathlib.Core.Path.{◌≡◌, refl}
use mathlib.Core.Bool.{Bool, true, false, ◌&&◌, cond}
use mathlib.Core.List.{List}
use native.Mathlib.Omega.{arith}
use lib.ListN.{length}
use lib.Dec.{leb, ltb, eqb}
use borrow.Author.Tests.{leb-true, leb-false, ltb-true, ltb-false, eqb-true, eqb-false}
use Rattle.font.specs.declared.tables.Table.{Table}
use Rattle.font.specs.declared.tables.Table.TheVariants.{Absent, Damaged, Found}
use Rattle.font.specs.Tables.{record_count, record_tag, record_offset, record_length, directory_fits, first_record, table_of_record, find_table}
use Rattle.font.specs.Answers.{FirstWith, Means, absent, past_file, too_short, found}
use Rattle.font.proofs.First.{holds, before}

-- ---- the record that lookup takes

module _ (file : List ℕ) (start tag : ℕ) where
  -- whether a record has the tag
  abbrev has : ℕ → Bool
  has i = eqb (record_tag file start i) tag

  first_with : first_record file start tag < record_count file start → FirstWith file start tag (first_record file start tag)
  unfolding first_record
  first_with l =
      record {
        stated = l;
        has = eqb-true (record_tag file start _) tag (holds has (record_count file start) l);
        none_before = λ k m. eqb-false (record_tag file start k) tag (before has (record_count file start) k m);
      }

  none_with : record_count file start ≤ first_record file start tag → (k : ℕ) → k < record_count file start → record_tag file start k ≡ tag → ⊥
  unfolding first_record
  none_with l k m = eqb-false (record_tag file start k) tag (before has (record_count file start) k (omega arith))

  -- there is one such record
  pub one_first : (i j : ℕ) → FirstWith file start tag i → FirstWith file start tag j → i ≡ j
  one_first i j f g = go (ltb i j) (ltb j i) refl refl
    where
      go : (a b : Bool) → ltb i j ≡ a → ltb j i ≡ b → i ≡ j
      go true b e h = absurd (g.none_before i (ltb-true i j e) f.has)
      go false true e h = absurd (f.none_before j (ltb-true j i h) g.has)
      go false false e h = omega (arith, ltb-false i j e, ltb-false j i h)

-- ---- what lookup answers

of_record : (file : List ℕ) (start tag least i : ℕ) → FirstWith file start tag i → Means file start tag least (table_of_record file start least i)
unfolding table_of_record
of_record file start tag least i f =
    go (leb least (record_length file start i)) (leb (record_offset file start i + record_length file start i) (length file)) refl refl
  where
    go : (a b : Bool) → leb least (record_length file start i) ≡ a → leb (record_offset file start i + record_length file start i) (length file) ≡ b
        → Means file start tag least (cond (a && b) (Found (record_offset file start i) (record_length file start i)) Damaged)
    go true true e h =
        found i f (leb-true (record_offset file start i + record_length file start i) (length file) h) (leb-true least (record_length file start i) e)
    go true false e h = past_file i f (leb-false (record_offset file start i + record_length file start i) (length file) h)
    go false b e h = too_short i f (leb-false least (record_length file start i) e)

pub means : (file : List ℕ) (start tag least : ℕ) → directory_fits file start ≡ true → Means file start tag least (find_table file start tag least)
unfolding find_table
means file start tag least fits = rw fits (go (ltb (first_record file start tag) (record_count file start)) refl)
  where
    go : (b : Bool) → ltb (first_record file start tag) (record_count file start) ≡ b
        → Means file start tag least (cond b (table_of_record file start least (first_record file start tag)) Absent)
    go true e = of_record file start tag least (first_record file start tag) (first_with file start tag (ltb-true (first_record file start tag) (record_count file start) e))
    go false e = absent (none_with file start tag (ltb-false (first_record file start tag) (record_count file start) e))

-- where no directory fits there is no table
pub no_directory : (file : List ℕ) (start tag least : ℕ) → directory_fits file start ≡ false → find_table file start tag least ≡ Absent
unfolding find_table
no_directory file start tag least e = rw e

-- ---- no other answer means right

module _ (file : List ℕ) (start tag least : ℕ) where
  pub one_answer : (t u : Table) → Means file start tag least t → Means file start tag least u → t ≡ u
  one_answer t u (absent n) (absent m) = refl
  one_answer t u (absent n) (past_file j g q) = absurd (n j g.stated g.has)
  one_answer t u (absent n) (too_short j g q) = absurd (n j g.stated g.has)
  one_answer t u (absent n) (found j g q r) = absurd (n j g.stated g.has)
  one_answer t u (past_file i f p) (absent m) = absurd (m i f.stated f.has)
  one_answer t u (past_file i f p) (past_file j g q) = refl
  one_answer t u (past_file i f p) (too_short j g q) = refl
  one_answer t u (past_file i f p) (found j g q r) =
      absurd (let p' = rw (one_first file start tag i j f g) at p in omega arith)
  one_answer t u (too_short i f p) (absent m) = absurd (m i f.stated f.has)
  one_answer t u (too_short i f p) (past_file j g q) = refl
  one_answer t u (too_short i f p) (too_short j g q) = refl
  one_answer t u (too_short i f p) (found j g q r) =
      absurd (let p' = rw (one_first file start tag i j f g) at p in omega arith)
  one_answer t u (found i f p o) (absent m) = absurd (m i f.stated f.has)
  one_answer t u (found i f p o) (past_file j g q) =
      absurd (let q' = rw (one_first file start tag j i g f) at q in omega arith)
  one_answer t u (found i f p o) (too_short j g q) =
      absurd (let q' = rw (one_first file start tag j i g f) at q in omega arith)
  one_answer t u (found i f p o) (found j g q r) = rw (one_first file start tag i j f g)

  -- so lookup answers what means right
  pub answers : (t : Table) → directory_fits file start ≡ true → Means file start tag least t → find_table file start tag least ≡ t
  answers t fits m = one_answer (find_table file start tag least) t (means file start tag least fits) m
