-- Refusal 31 is given exactly where a table that the attributes need is damaged. Assumes nothing.
use Prim.Native.Nat.{ℕ, ◌<◌}
use mathlib.Core.Path.{◌≡◌, refl}
use mathlib.Core.Bool.{Bool, true, false, not, ◌&&◌, cond}
use mathlib.Core.List.{List}
use native.Mathlib.Omega.{arith}
use lib.ListN.{length}
use lib.Dec.{leb, ltb}
use borrow.Author.Tests.{le-leb, lt-ltb, ltb-true}
use Rattle.font.specs.declared.tables.Table.{Table}
use Rattle.font.specs.declared.tables.Table.TheVariants.{Absent, Damaged, Found}
use Rattle.font.specs.Tables.{u16_at, directory_fits, find_table, part_of, hand_out, handed_table, is_damaged}
use Rattle.font.specs.Collection.{header_fits, font_count, offset_of, font_start}
use Rattle.font.specs.Charmap.{charmap_index_of}
use Rattle.font.specs.StatedAttributes.{bit, needs_post, needed_damaged, loses_needed}
use Rattle.font.specs.Font.{fvar_of, axis_count_of, has_index, refusal_at, font_refusal}
use Rattle.font.specs.Damage.{Loses, os2, head, post, LosesNumbered}
use Rattle.font.proofs.Lookup.{past_file, records_inside}
use Rattle.font.proofs.Answers.{no_directory}

-- ---- what is needed

module _ (file : List ℕ) where
  -- a table is handed out as damaged exactly where lookup says so
  damaged : (t : Table) → is_damaged (hand_out file t) ≡ true → t ≡ Damaged
  unfolding hand_out is_damaged
  damaged Absent e = absurd (let z : ◌≡◌ {A = ℕ} 0 1 = cc in omega arith)
  damaged Damaged e = refl
  damaged (Found offset len) e = absurd (let z : ◌≡◌ {A = ℕ} 0 1 = cc in omega arith)

  module _ (start : ℕ) where
    pub loses : loses_needed file start ≡ true → Loses file start
    unfolding loses_needed handed_table needed_damaged hand_out needs_post
    loses = go (find_table file start 0x4F532F32 78) refl
      where
        oblique : (offset len : ℕ) → find_table file start 0x4F532F32 78 ≡ Found offset len
            → (a b c : Bool) → bit 0 (u16_at (part_of file (Found offset len)) 62) ≡ a → bit 9 (u16_at (part_of file (Found offset len)) 62) ≡ b
            → is_damaged (hand_out file (find_table file start 0x706F7374 32)) ≡ c
            → ((not a && b) && c) ≡ true → Loses file start
        oblique offset len e false true true f s d z = post offset len e f s (damaged (find_table file start 0x706F7374 32) d)
        oblique offset len e false true false f s d z = absurd (let z : ◌≡◌ {A = ℕ} 0 1 = cc in omega arith)
        oblique offset len e false false c f s d z = absurd (let z : ◌≡◌ {A = ℕ} 0 1 = cc in omega arith)
        oblique offset len e true b c f s d z = absurd (let z : ◌≡◌ {A = ℕ} 0 1 = cc in omega arith)

        go : (t : Table) → find_table file start 0x4F532F32 78 ≡ t
            → needed_damaged (hand_out file t) (hand_out file (find_table file start 0x68656164 54)) (hand_out file (find_table file start 0x706F7374 32)) ≡ true
            → Loses file start
        go Absent e z = head e (damaged (find_table file start 0x68656164 54) z)
        go Damaged e z = os2 e
        go (Found offset len) e z = oblique offset len e _ _ _ refl refl refl z

    pub loses_needed_lem : Loses file start → loses_needed file start ≡ true
    unfolding loses_needed handed_table needed_damaged hand_out is_damaged needs_post
    loses_needed_lem (os2 e) = rw e
    loses_needed_lem (head e h) = rw (e, h)
    loses_needed_lem (post offset len e f s h) = rw (e, h, f, s)

    -- a font whose directory does not fit loses nothing: it has no tables
    pub loses_fits : loses_needed file start ≡ true → directory_fits file start ≡ true
    unfolding loses_needed handed_table needed_damaged hand_out is_damaged
    loses_fits z = go (directory_fits file start) refl
      where
        go : (b : Bool) → directory_fits file start ≡ b → b ≡ true
        go true e = refl
        go false e =
            let none = no_directory file start 0x4F532F32 78 e in
            let nor = no_directory file start 0x68656164 54 e in
            absurd (let z' = rw (none, nor) at z in let c : ◌≡◌ {A = ℕ} 0 1 = cc in omega arith)

-- ---- 31 comes after 21 and before 22

module _ (font : List ℕ) (start : ℕ) where
  pub refused_31 : refusal_at font start ≡ 31 → (directory_fits font start ≡ true) × (loses_needed font start ≡ true)
  unfolding refusal_at
  refused_31 =
      go (directory_fits font start) (loses_needed font start) (has_index (charmap_index_of font start)) (leb (axis_count_of (fvar_of font start)) 16) refl refl
    where
      go : (a b c d : Bool) → directory_fits font start ≡ a → loses_needed font start ≡ b
          → ◌≡◌ {A = ℕ} (cond a (cond b 31 (cond c (cond d 0 23) 22)) 21) 31
          → (directory_fits font start ≡ true) × (loses_needed font start ≡ true)
      go true true c d e h z = (e, h)
      go true false true true e h z = absurd (omega arith)
      go true false true false e h z = absurd (omega arith)
      go true false false d e h z = absurd (omega arith)
      go false b c d e h z = absurd (omega arith)

  pub gives_31 : directory_fits font start ≡ true → loses_needed font start ≡ true → refusal_at font start ≡ 31
  unfolding refusal_at
  gives_31 e h = rw (e, h)

-- ---- of the font of a number

module _ (file : List ℕ) (number : ℕ) where
  pub numbered_31 : font_refusal file number ≡ 31 → LosesNumbered file number
  unfolding font_refusal
  numbered_31 = go (header_fits file) (ltb number (font_count file)) refl refl
    where
      go : (a b : Bool) → header_fits file ≡ a → ltb number (font_count file) ≡ b
          → ◌≡◌ {A = ℕ} (cond a (cond b (refusal_at file (font_start file number)) 30) 21) 31
          → LosesNumbered file number
      go true true e h z =
          let r = refused_31 file (font_start file number) z in
          record { header = e; below = ltb-true number (font_count file) h; fits = r.0; loses = loses file (font_start file number) r.1 }
      go true false e h z = absurd (omega arith)
      go false b e h z = absurd (omega arith)

  pub gives_numbered_31 : LosesNumbered file number → font_refusal file number ≡ 31
  unfolding font_refusal
  gives_numbered_31 l =
      rw (l.header, lt-ltb number (font_count file) l.below)
      (gives_31 file (font_start file number) l.fits (loses_needed_lem file (font_start file number) l.loses))

  -- a directory that fits is that of a font whose number the file has, behind the file's header
  fits_header : directory_fits file (font_start file number) ≡ true → header_fits file ≡ true
  unfolding header_fits
  fits_header fits = le-leb 12 (length file) (omega (arith, records_inside file (font_start file number) fits))

  fits_below : directory_fits file (font_start file number) ≡ true → number < font_count file
  unfolding font_start
  fits_below fits = go (ltb number (font_count file)) refl fits
    where
      go : (b : Bool) → ltb number (font_count file) ≡ b → directory_fits file (cond b (offset_of file number) (length file)) ≡ true → number < font_count file
      go true e h = ltb-true number (font_count file) e
      go false e h =
          let past = past_file file (length file) (omega arith) in
          absurd (let z : ◌≡◌ {A = ℕ} 0 1 = cc in omega arith)

  -- so what a font loses at its start is enough
  pub losing_31 : loses_needed file (font_start file number) ≡ true → font_refusal file number ≡ 31
  losing_31 h =
      let fits = loses_fits file (font_start file number) h in
      gives_numbered_31
      (record { header = fits_header fits; below = fits_below fits; fits = fits; loses = loses file (font_start file number) h })

  pub lost_31 : font_refusal file number ≡ 31 → loses_needed file (font_start file number) ≡ true
  lost_31 z = loses_needed_lem file (font_start file number) (numbered_31 z).loses
