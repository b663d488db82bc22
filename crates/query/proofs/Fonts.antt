-- How a font's field ends: 18 where its length or its bytes reach past the end; then what is said of a collection's number; then the font layer's refusal, at the
-- length field.
use Prim.Native.Nat.{ℕ, ◌+◌, ◌-◌, ◌≤◌, ◌<◌}
use mathlib.Core.Path.{◌≡◌, refl, sym, ap, ◌∙◌}
use mathlib.Core.Bool.{Bool, true, false, cond}
use mathlib.Core.List.{List}
use native.Mathlib.Omega.{arith}
use native.Mathlib.Nat.{add-sub_cancel_left}
use lib.Dec.{leb, ltb, eqb}
use lib.ListN.{length, take, drop}
use borrow.Author.Tests.{le-leb, lt-leb, eq-eqb, ne_eqb}
use Rattle.font.specs.Tables.{u16_at, u32_at}
use Rattle.font.specs.Collection.{is_collection, header_fits, font_count, font_start}
use Rattle.font.specs.Font.{refusal_at, font_refusal}
use Rattle.font.proofs.FaceOf.{OneOf, accepted, directory, charmap, axes, number, damage, refusal_one_of, below_not_30}
use Rattle.std.specs.Prelude.{Result, Ok, Err}
use Rattle.std.specs.Result.{IsErrAnd, MatchResult}
use Rattle.std.proofs.lemmas.Result.{err_from_is_err_and}
use Rattle.font.proofs.Refusals.{not_zero}
use Rattle.query.specs.declared.job.Refused.{Refused}
use Rattle.query.specs.Reader.{At, end_in}
use Rattle.query.specs.Reader as Reader
use Rattle.query.specs.Reader.{bad_directory, no_charmap, many_axes, no_font, damaged_table, refused, got, done, onward, ◌>>=◌, field, ended}
use Rattle.query.specs.Fields.{half, word, NumberedFont, field_end, font_row, font_bytes, sized_file, number_below, refused_at, font_number, font_taken, numbered, font_file}
use Rattle.query.specs.Values.{number_behind}
use Rattle.query.proofs.Ends.{tested_ends, stops, goes, got_there}
use Rattle.query.proofs.FacesAt.{sized_at, sized_in, number_at_lem}

-- ---- length and bytes

pub past_length : (s : List ℕ) (p : ℕ) → length s < p + 4 → record { refusal = 18; at = p } ≡ ended (sized_file s p)
unfolding sized_file ◌>>=◌ onward word field ended Reader.number
past_length s p h = simp (lt-leb (p + 4) (length s) h)

pub past_font : (s : List ℕ) (p n : ℕ) → n ≡ u32_at s p → p + 4 ≤ length s → length s < p + 4 + n → record { refusal = 18; at = p } ≡ ended (sized_file s p)
unfolding sized_file font_bytes ◌>>=◌ onward word field ended Reader.number
past_font s p n e h l = simp (le-leb (p + 4) (length s) h, sym e, lt-leb (p + 4 + n) (length s) l)

pub sized : (s : List ℕ) (p n : ℕ) → n ≡ u32_at s p → p + 4 + n ≤ length s → record { refusal = 0; at = p + 4 + n } ≡ ended (sized_file s p)
unfolding sized_file font_bytes ◌>>=◌ onward word field ended Reader.number
sized s p n e l = simp (le-leb (p + 4) (length s) (omega arith), sym e, le-leb (p + 4 + n) (length s) l)

-- bytes that are refused at another place
pub placed_bytes : {Q : Refused → Refused → Type 0} (place n : ℕ) (s : List ℕ) (p : ℕ) (x y : Result ℕ Refused) → end_in x ≡ ended (field n u32_at s p)
    → MatchResult x (λ q. y ≡ Ok q) (λ why. IsErrAnd y (Q why))
    → ((why moved : Refused) → Q why moved → moved ≡ record { refusal = why.refusal; position = place })
    → end_in y ≡ ended (font_bytes place n s p)
unfolding font_bytes field ended end_in Reader.number
placed_bytes place n s p (Ok q) y e is told = rw is (go (leb (p + n) (length s)) e)
  where
    go : (b : Bool) → end_in (Ok q) ≡ ended (cond b (got (u32_at s p) (p + n)) (refused Reader.past_end p))
        → end_in (Ok q) ≡ ended (cond b (got (take n (drop p s)) (p + n)) (refused Reader.past_end place))
    go true e = e
    go false e = absurd (let h : ◌≡◌ {A = ℕ} 0 18 = ap (λ (x : At). x.refusal) e in omega arith)
placed_bytes place n s p (Err why) y e is told = let h = err_from_is_err_and y is in rw (h.1, told why h.0 h.2) (go (leb (p + n) (length s)) e)
  where
    go : (b : Bool) → end_in (Err why) ≡ ended (cond b (got (u32_at s p) (p + n)) (refused Reader.past_end p))
        → end_in (Err (record { refusal = why.refusal; position = place })) ≡ ended (cond b (got (take n (drop p s)) (p + n)) (refused Reader.past_end place))
    go true e = absurd (not_zero why.refusal (ap (λ (x : At). x.refusal) e))
    go false e = ap (λ (x : At). record { refusal = x.refusal; at = place }) e

-- ---- the number behind a collection's file

pub number_ends : (place : ℕ) (file s : List ℕ) (p : ℕ) → is_collection file ≡ true → 12 ≤ length file
    → field_end s p 2 (ltb (u16_at s p) (font_count file)) 30 ≡ ended (font_number place file s p)
unfolding font_number header_fits number_below half Reader.number
number_ends place file s p e l = rw (e, le-leb 12 (length file) l) (tested_ends no_font (λ i. ltb i (font_count file)) 2 u16_at s p)

-- a file without its 12 header bytes, whatever follows it
short_numbered : (place : ℕ) (file s : List ℕ) (p : ℕ) → length file < 12 → record { refusal = 21; at = place } ≡ ended (numbered place file s p)
unfolding numbered font_number header_fits refused_at done font_taken font_refusal font_row ◌>>=◌ onward ended Reader.number
short_numbered place file s p l = go (is_collection file) (header_fits file) (lt-leb 12 (length file) l)
  where
    go : (a b : Bool) → b ≡ false
        → record { refusal = 21; at = place }
        ≡ ended {A = NumberedFont}
        (onward (cond a (cond b (number_below (font_count file)) (refused_at bad_directory place)) (done 0) s p)
        (λ i q. let r = cond b (cond (ltb i (font_count file)) (refusal_at file (font_start file i)) 30) 21 in
        cond (eqb r 0) (got (record { file = file; number = i }) q) (refused (cond (eqb r 21) bad_directory (cond (eqb r 31) damaged_table (cond (eqb r 22) no_charmap many_axes))) place)))
    go true true e = absurd (let z : ◌≡◌ {A = ℕ} 0 1 = cc in omega arith)
    go true false e = refl
    go false true e = absurd (let z : ◌≡◌ {A = ℕ} 0 1 = cc in omega arith)
    go false false e = refl

-- ---- the font layer's numbers

-- the table has the font layer's number, if it is neither 0 nor 30
font_number_lem : (n : ℕ) → OneOf n → (n ≡ 0 → ⊥) → (n ≡ 30 → ⊥) → n ≡ Reader.number (font_row n)
unfolding font_row Reader.number
font_number_lem n (accepted e) h k = absurd (h e)
font_number_lem n (directory e) h k = rw e
font_number_lem n (charmap e) h k = rw e
font_number_lem n (axes e) h k = rw e
font_number_lem n (number e) h k = absurd (k e)
font_number_lem n (damage e) h k = rw e

-- ---- what follows the bytes

unrefused : (b : At) → b.refusal ≡ 0 → b ≡ record { refusal = 0; at = b.at }
unrefused b e = ap (λ (x : ℕ). record { refusal = x; at = b.at }) e

-- a says where they end, and `file` is that part of the job
module _ (s : List ℕ) (p : ℕ) {a : At} (size : a ≡ ended (sized_file s p)) (fine : a.refusal ≡ 0) where
  pub file_end_lem : (p + 4 ≤ a.at) × (a.at ≤ length s)
  file_end_lem = let there = got_there size fine in let is = sized_in s p there.0 a.at there.1 in (omega (arith, is.0), is.1)

  module _ {file : List ℕ} (part : file ≡ take (a.at - (p + 4)) (drop (p + 4) s)) where
    file_is : (v : List ℕ) → sized_file s p ≡ got v a.at → v ≡ file
    file_is v e =
        let is = sized_at s p (p + 4) (omega arith) v a.at e in
        let size : a.at - (p + 4) ≡ u32_at s p = rw is.1 (add-sub_cancel_left (p + 4) (u32_at s p)) in
        is.0 ∙ sym (rw size at part)

    pub header_refused : length file < 12 → record { refusal = 21; at = p } ≡ ended (font_file s p)
    unfolding font_file
    header_refused l = goes sized_file (numbered p) s p size fine (λ v e. rw (file_is v e) (short_numbered p file s a.at l))

    module _ {b : At} (next : b ≡ ended (font_number p file s a.at)) where
      pub number_refused : (b.refusal ≡ 0 → ⊥) → b ≡ ended (font_file s p)
      unfolding font_file numbered
      number_refused h = goes sized_file (numbered p) s p size fine (λ v e. rw (file_is v e) (stops (font_number p file) _ s a.at next h))

      module _ (taken : b.refusal ≡ 0) {i f : ℕ} (number_is : i ≡ number_behind s a.at file) (font_is : f ≡ font_refusal file i) where
        refusal_is : (k : ℕ) → font_number p file s a.at ≡ got k b.at → f ≡ font_refusal file k
        refusal_is k e = font_is ∙ ap (font_refusal file) (number_is ∙ sym (number_at_lem p file s a.at k b.at e).0)

        pub font_taken_lem : f ≡ 0 → b ≡ ended (font_file s p)
        unfolding font_file numbered font_taken ended
        font_taken_lem z =
            goes sized_file (numbered p) s p size fine
            (λ v e. rw (file_is v e)
            (goes (font_number p file) _ s a.at next taken (λ k r. simp (eq-eqb (font_refusal file k) 0 (sym (refusal_is k r) ∙ z)) (unrefused b taken))))

        pub font_refused : (f ≡ 0 → ⊥) → record { refusal = f; at = p } ≡ ended (font_file s p)
        unfolding font_file numbered font_taken ended
        font_refused h =
            goes sized_file (numbered p) s p size fine
            (λ v e. rw (file_is v e)
            (goes (font_number p file) _ s a.at next taken
            (λ k r. let z : font_refusal file k ≡ 0 → ⊥ = λ y. h (refusal_is k r ∙ y) in
            let row = font_number_lem (font_refusal file k) (refusal_one_of file k) z (below_not_30 file k (number_at_lem p file s a.at k b.at r).2) in
            rw (ne_eqb (font_refusal file k) 0 z) (ap (λ (x : ℕ). record { refusal = x; at = p }) (refusal_is k r ∙ row)))))
