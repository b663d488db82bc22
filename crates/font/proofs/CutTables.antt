-- Font files with the same five tables, and a file whose tables are cut to what section 2 looks at in those of another, are read alike
-- (`LookedAt.antt`). Assumes nothing.
use Prim.Native.Nat.{ℕ, ◌+◌, ◌*◌, ◌≤◌, ◌<◌, max}
use mathlib.Core.Path.{◌≡◌, refl, sym, ap, ◌∙◌}
use mathlib.Core.Bool.{Bool, true, false, ◌&&◌, cond}
use mathlib.Core.List.{List, []}
use mathlib.Core.Logic.{◌⊎◌, inl, inr}
use native.Mathlib.Omega.{arith}
use lib.ListN.{length, take, length-take}
use lib.Seq.{take-take, take_all}
use lib.Dec.{leb, ltb, eqb}
use borrow.Author.Tests.{leb-true, leb-false, lt-leb, ltb-true, ltb-false}
use Rattle.font.specs.declared.tables.Table.{Table}
use Rattle.font.specs.declared.tables.Table.TheVariants.{Absent, Damaged, Found}
use Rattle.font.specs.Tables.{u16_at, directory_fits, find_table, part_of, Handed, no_table, damaged_table, found_table, hand_out, handed_table, bytes_of}
use Rattle.font.specs.Charmap.{lies_in, pair_class, qualifies}
use Rattle.font.specs.StatedAttributes.{present}
use Rattle.font.specs.Font.{axis_count_of}
use Rattle.font.specs.LookedAt.{Agree, Alike, absent, damaged, found, AxesAlike, no_axes, with_axes_lem, Keeps, RecordsAlike, cut_to, CutAxes, cut, left_out, CutRecords, Five, os2, post, head, fvar, cmap, SameTables, EqualTables, CutTables, SameReading}
use Rattle.font.proofs.Lookup.{long}
use Rattle.font.proofs.LookedAt.{read_alike}

-- a found table has at least the bytes that were asked for
unfoldable pub Long : ℕ → Handed → Type 0
Long least no_table = Unit {0}
Long least damaged_table = Unit {0}
Long least (found_table s) = least ≤ length s

abbrev NoneOrLong : ℕ → List ℕ → Type 0
NoneOrLong least s = (s ≡ []) ⊎ (least ≤ length s)

none_or : (least : ℕ) (s : Handed) → Long least s → NoneOrLong least (bytes_of s)
unfolding Long bytes_of
none_or least no_table l = inl refl
none_or least damaged_table l = inl refl
none_or least (found_table s) l = inr l

handed_long : (font : List ℕ) (start tag least : ℕ) → Long least (handed_table font start tag least)
unfolding Long handed_table hand_out part_of
handed_long font start tag least = go (find_table font start tag least) refl
  where
    go : (t : Table) → find_table font start tag least ≡ t → Long least (hand_out font t)
    go Absent e = tt
    go Damaged e = tt
    go (Found o n) e = long font start tag least o n e

-- ---- the same tables

agree_equal : (n : ℕ) {s t : List ℕ} → n ≤ length s → s ≡ t → Agree n s t
agree_equal n l e = record { in_first = l; in_second = rw (← e) l; same = ap (take n) e }

equal_alike : {n : ℕ} {s t : Handed} → Long n s → s ≡ t → Alike n s t
unfolding Long
equal_alike {n} {s} l e = rw (← e) (itself s l)
  where
    itself : (s : Handed) → Long n s → Alike n s s
    itself no_table l = absent
    itself damaged_table l = damaged
    itself (found_table s) l = found (agree_equal n l refl)

-- records past the table, or no table
past_none : (s : List ℕ) → length s < u16_at s 4 + 20 * u16_at s 8 → axis_count_of s ≡ 0
unfolding axis_count_of
past_none s l = rw (lt-leb (u16_at s 4 + 20 * u16_at s 8) (length s) l) (go (present s) (eqb (u16_at s 10) 20))
  where
    go : (a b : Bool) → cond (a && (b && false)) (u16_at s 8) 0 ≡ 0
    go true true = refl
    go true false = refl
    go false b = refl

empty_none : {s : List ℕ} → s ≡ [] → axis_count_of s ≡ 0
unfolding axis_count_of present
empty_none e = rw e

equal_axes : {s t : List ℕ} → NoneOrLong 16 s → s ≡ t → AxesAlike s t
equal_axes (inl h) e = no_axes (empty_none h) (empty_none (sym e ∙ h))
equal_axes {s} {t} (inr h) e = go (leb (u16_at s 4 + 20 * u16_at s 8) (length s)) refl
  where
    go : (b : Bool) → leb (u16_at s 4 + 20 * u16_at s 8) (length s) ≡ b → AxesAlike s t
    go true l = with_axes_lem (length s) h (leb-true (u16_at s 4 + 20 * u16_at s 8) (length s) l) (agree_equal (length s) (omega arith) e)
    go false l = let z = past_none s (leb-false (u16_at s 4 + 20 * u16_at s 8) (length s) l) in no_axes z (ap axis_count_of (sym e) ∙ z)

equal_records : {c d : List ℕ} → c ≡ d → RecordsAlike c d
equal_records {c} {d} e = record { forth = keeps c d e; back = keeps d c (sym e) }
  where
    keeps : (c d : List ℕ) → c ≡ d → Keeps c d
    keeps c d e i l q = rw (← e) (l, q, refl)

-- ---- cut tables

agree_cut : (n : ℕ) (s : List ℕ) → n ≤ length s → Agree n s (take n s)
agree_cut n s l = record { in_first = l; in_second = rw length-take (omega arith); same = sym (take-take n n s (omega arith)) }

cut_alike : {n : ℕ} {s t : Handed} → Long n s → t ≡ cut_to n s → Alike n s t
unfolding Long cut_to
cut_alike {n} {s} l e = rw e (cut_itself s l)
  where
    cut_itself : (s : Handed) → Long n s → Alike n s (cut_to n s)
    cut_itself no_table l = absent
    cut_itself damaged_table l = damaged
    cut_itself (found_table s) l = found (agree_cut n s l)

cut_axes : {s t : List ℕ} → NoneOrLong 16 s → CutAxes s t → AxesAlike s t
cut_axes h (left_out z e) = no_axes z (empty_none e)
cut_axes {s} {t} h (cut e) = go h (leb (u16_at s 4 + 20 * u16_at s 8) (length s)) refl
  where
    n : ℕ
    n = max 16 (u16_at s 4 + 20 * u16_at s 8)

    -- a table that is no longer than it is cut to is whole
    all : length s ≤ n → AxesAlike s t
    all l = equal_axes h (sym (e ∙ take_all n s l))

    go : NoneOrLong 16 s → (b : Bool) → leb (u16_at s 4 + 20 * u16_at s 8) (length s) ≡ b → AxesAlike s t
    go (inr l) true r =
        let fits = leb-true (u16_at s 4 + 20 * u16_at s 8) (length s) r in
        with_axes_lem n (omega arith) (omega arith) (rw e (agree_cut n s (omega arith)))
    go (inr l) false r = all (omega (arith, leb-false (u16_at s 4 + 20 * u16_at s 8) (length s) r))
    go (inl z) b r = all (rw z (omega arith))

module _ {c d : List ℕ} (h : CutRecords c d) where
  class_kept : (i : ℕ) → i < u16_at d 2 → pair_class d i ≡ pair_class c i
  unfolding pair_class
  class_kept i l = rw (h.platform i l, h.encoding i l)

  qualifies_kept : (i : ℕ) → i < u16_at d 2 → qualifies d i ≡ qualifies c i
  unfolding qualifies
  qualifies_kept i l = rw (h.lies i l, class_kept i l)

  left_none : (i : ℕ) → lies_in c i ≡ false → qualifies c i ≡ false
  unfolding qualifies
  left_none i e = rw e

  keeps_forth : Keeps c d
  keeps_forth i l q = go (ltb i (u16_at d 2)) refl
    where
      go : (b : Bool) → ltb i (u16_at d 2) ≡ b → (i < u16_at d 2) × (qualifies d i ≡ true) × (pair_class d i ≡ pair_class c i)
      go true e = let m = ltb-true i (u16_at d 2) e in (m, qualifies_kept i m ∙ q, class_kept i m)
      go false e =
          let no = left_none i (h.rest i (ltb-false i (u16_at d 2) e) l) in
          absurd (let z : ◌≡◌ {A = ℕ} 0 1 = cc in omega arith)

  pub cut_records : RecordsAlike c d
  cut_records =
      record {
        forth = keeps_forth;
        back = λ i l q. (omega (arith, h.fewer), sym (qualifies_kept i l) ∙ q, sym (class_kept i l));
      }

-- ---- all five

-- the same answers for all five
pub all_equal : (s t : ℕ → ℕ → Handed) → ((tag least : ℕ) → Five tag least → s tag least ≡ t tag least) → EqualTables s t
all_equal s t h =
    record {
      os2 = h 0x4F532F32 78 os2;
      post = h 0x706F7374 32 post;
      head = h 0x68656164 54 head;
      fvar = ap bytes_of (h 0x66766172 16 fvar);
      cmap = ap bytes_of (h 0x636D6170 4 cmap);
    }

module _ (s t : ℕ → ℕ → Handed) (long : (tag least : ℕ) → Long least (s tag least)) where
  pub equal_same : EqualTables s t → SameTables s t
  equal_same h =
      record {
        os2 = equal_alike (long 0x4F532F32 78) h.os2;
        post = equal_alike (long 0x706F7374 32) h.post;
        head = equal_alike (long 0x68656164 54) h.head;
        fvar = equal_axes (none_or 16 (s 0x66766172 16) (long 0x66766172 16)) h.fvar;
        cmap = equal_records h.cmap;
      }

  pub cut_same : CutTables s t → SameTables s t
  cut_same h =
      record {
        os2 = cut_alike (long 0x4F532F32 78) h.os2;
        post = cut_alike (long 0x706F7374 32) h.post;
        head = cut_alike (long 0x68656164 54) h.head;
        fvar = cut_axes (none_or 16 (s 0x66766172 16) (long 0x66766172 16)) h.fvar;
        cmap = cut_records h.cmap;
      }

-- ---- font files, each from its directory's start on

module _ (f : List ℕ) (a : ℕ) (g : List ℕ) (b : ℕ) (fits : directory_fits f a ≡ directory_fits g b) where
  pub read_equal : EqualTables (handed_table f a) (handed_table g b) → SameReading f a g b
  read_equal h = read_alike f a g b (equal_same (handed_table f a) (handed_table g b) (handed_long f a) h) fits

  pub read_cut : CutTables (handed_table f a) (handed_table g b) → SameReading f a g b
  read_cut h = read_alike f a g b (cut_same (handed_table f a) (handed_table g b) (handed_long f a) h) fits

-- where no directory fits there are no tables
no_tables : (font : List ℕ) (start tag least : ℕ) → directory_fits font start ≡ false → handed_table font start tag least ≡ no_table
unfolding handed_table hand_out find_table
no_tables font start tag least e = rw e

pub read_none : (f : List ℕ) (a : ℕ) (g : List ℕ) (b : ℕ) → directory_fits f a ≡ false → directory_fits g b ≡ false → SameReading f a g b
read_none f a g b e h =
    read_equal f a g b (e ∙ sym h) (all_equal (handed_table f a) (handed_table g b) (λ tag least t. no_tables f a tag least e ∙ sym (no_tables g b tag least h)))
