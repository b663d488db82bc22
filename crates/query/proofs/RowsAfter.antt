-- Rows of faces: what the loop over them keeps, and a row after overrides, which is the row of the face after them.
use Rattle.std.specs.Prelude.{Option, None, Some}
use Prim.Native.Nat.{ℕ, suc, ◌+◌, ◌-◌, ◌≤◌, ◌<◌}
use mathlib.Core.Path.{◌≡◌, refl, sym, ap, ◌∙◌}
use mathlib.Core.Bool.{Bool, true, false, cond}
use mathlib.Core.List.{List, [], ◌∷◌, ◌++◌}
use native.Mathlib.Numerals.{add-one}
use native.Mathlib.Omega.{arith}
use lib.Dec.{eqb}
use lib.ListN.{length, take, drop, get_or, set, length-set, length-append, length-take, length-drop, get_or-append}
use lib.Seq.{drop-cons, get_or-set_same, get_or-set_other}
use borrow.Author.Tests.{eqb-true, eqb-false}
use Rattle.font.specs.declared.attributes.Attributes.{Attributes}
use Rattle.font.specs.declared.font.FontInfo.{FontInfo}
use Rattle.font.specs.declared.attributes.FontWidth.{FontWidth}
use Rattle.font.specs.declared.attributes.FontStyle.{FontStyle}
use Rattle.font.specs.declared.attributes.FontWeight.{FontWeight}
use Rattle.font.specs.declared.overrides.FontInfoOverride.{FontInfoOverride}
use Rattle.font.specs.Attributes.{attributes_of}
use Rattle.font.specs.Overrides.{ratio_of, style_of, weight_of, overridden, with_override}
use Rattle.matching.specs.declared.rows.Row.{Row}
use Rattle.matching.specs.Rows.{no_row, row_of}
use Rattle.matching.proofs.Ranks.{Tri, low, same, high, tri}
use Rattle.query.specs.Sizes.{most_bytes}
use Rattle.query.specs.Reader.{many}
use Rattle.query.specs.Entries.{Face, Override, read_face}
use Rattle.query.specs.Positions.{LiesAt}
use Rattle.font.specs.Font.{font_refusal}
use Rattle.query.specs.Values.{file_at, file_end, number_behind, face_at, face_end}
use Rattle.query.specs.View.{overridden_by, after_overrides, no_entry, entry_of}
use Rattle.query.specs.CallTables.{row_at, with_width, with_style, with_weight, row_overridden, rows_after, FontTaken, FacesLie, EntryRow, RowsAt}
use Rattle.query.proofs.Ends.{many_length}
use Rattle.query.proofs.FacesAt.{Next, face_at_lem, next_face}

-- ---- the faces passed

-- the first i faces that lie one after another from a position on have their rows, and the others are left
pub record FacesLeft (reading : ℕ) (s : List ℕ) (at count i place : ℕ) (before rows : List Row) : Type 0 where
  pub long : length rows ≡ length before
  pub passed : (faces : List Face) → LiesAt (many count read_face) s at faces → (j : ℕ) → j < i → EntryRow reading s (entry_of faces j) (get_or rows j no_row)
  pub left : (faces : List Face) → LiesAt (many count read_face) s at faces → LiesAt (many (count - i) read_face) s place (drop i faces)

module _ {reading : ℕ} {s : List ℕ} {at count : ℕ} {before : List Row} where
  pub faces_first : FacesLeft reading s at count 0 at before before
  faces_first =
      record {
        long = refl;
        passed = λ faces lies j l. absurd (omega arith);
        left = λ faces lies. let all : count - 0 ≡ count = omega arith in rw all lies;
      }

  module _ {i place : ℕ} {rows : List Row} (more : i < count) (left : FacesLeft reading s at count i place before rows) where
    -- the next one is the face i
    record FaceHere (faces : List Face) : Type 0 where
      row : EntryRow reading s (entry_of faces i) (row_at reading s place)
      inside : place < length s
      taken : FontTaken (face_at s place).font
      others : LiesAt (many (count - (i + 1)) read_face) s (face_end s place) (drop (i + 1) faces)

    face_here : (faces : List Face) → LiesAt (many count read_face) s at faces → FaceHere faces
    unfolding entry_of
    face_here faces lies =
        let one : count - i ≡ suc (count - (i + 1)) = omega arith in
        go (next_face (count - (i + 1)) s place (drop i faces) (rw one at (left.left faces lies)))
      where
        split : drop i faces ≡ get_or faces i no_entry ∷ drop (i + 1) faces
        split = rw (add-one i) (drop-cons faces i no_entry (omega (arith, many_length read_face count s at faces lies.end lies.read)))

        go : Next read_face (count - (i + 1)) s place (face_at s place) (face_end s place) (drop i faces) → FaceHere faces
        go next =
            let read = face_at_lem s place _ _ next.read in
            let is : face_at s place ≡ get_or faces i no_entry = cc split in
            let rest : next.rest ≡ drop (i + 1) faces = cc split in
            record {
              row = record { entry = place; is = refl; face_is = is; taken = rw is at read.2; inside = read.3 };
              inside = read.3;
              taken = read.2;
              others = rw rest at next.left;
            }

    pub place_low : FacesLie s at count → place < most_bytes
    place_low known = omega (arith, known.short, (face_here known.faces known.lie).inside)

    pub font_there : FacesLie s at count → {file : List ℕ} {number : ℕ} → file ≡ file_at s place → number ≡ number_behind s (file_end s place) file
        → font_refusal file number ≡ 0
    unfolding face_at
    font_there known f n = rw (n, f) (face_here known.faces known.lie).taken

    pub face_passed : {next : ℕ} {row : Row} → i < length rows → row ≡ row_at reading s place → next ≡ face_end s place
        → FacesLeft reading s at count (i + 1) next before (set rows i row)
    face_passed {next} {row} room e end =
        record {
          long = length-set rows i row ∙ left.long;
          passed = λ faces lies j m. one faces lies j m (tri j i);
          left = λ faces lies. rw end (face_here faces lies).others;
        }
      where
        one : (faces : List Face) → LiesAt (many count read_face) s at faces → (j : ℕ) → j < i + 1 → Tri j i → EntryRow reading s (entry_of faces j) (get_or (set rows i row) j no_row)
        one faces lies j m (low n) = rw (get_or-set_other rows i j row no_row (λ q. omega arith)) (left.passed faces lies j n)
        one faces lies j m (same q) = rw (q, get_or-set_same rows i row no_row room, e) (face_here faces lies).row
        one faces lies j m (high n) = absurd (omega arith)

  pub faces_last : {i place : ℕ} {rows : List Row} → FacesLeft reading s at count i place before rows → count ≤ i → RowsAt reading s at count before rows
  faces_last h l = record { long = h.long; each = λ faces lies j m. h.passed faces lies j (omega arith) }

-- the rows of the first of a list, and those that were behind them
pub faces_before : {reading : ℕ} {s : List ℕ} {at count : ℕ} {rows some : List Row} → count ≤ length rows → RowsAt reading s at count (take count rows) some
    → RowsAt reading s at count rows (some ++ drop count rows)
faces_before {count = count} {rows = rows} {some = some} room h =
    let long : length some ≡ count = omega (arith, h.long, length-take count rows) in
    record {
      long = simp (length-append, length-drop) (omega arith);
      each = λ faces lies i l. let here : i < length some = omega arith in rw (get_or-append some (drop count rows) no_row i here) (h.each faces lies i l);
    }

-- ---- one override on a row

by_cases : (w : Option FontWidth) (t : Option FontStyle) (v : Option FontWeight) (a : Attributes) (m : ℕ)
    → with_weight v (with_style t (with_width w (row_of a m)))
    ≡ row_of (attributes_of (ratio_of w a.width.ratio) (style_of t a.style) (weight_of v a.weight.value)) m
unfolding with_weight with_style with_width row_of ratio_of style_of weight_of
by_cases None None None a m = refl
by_cases None None (Some v) a m = refl
by_cases None (Some t) None a m = refl
by_cases None (Some t) (Some v) a m = refl
by_cases (Some w) None None a m = refl
by_cases (Some w) None (Some v) a m = refl
by_cases (Some w) (Some t) None a m = refl
by_cases (Some w) (Some t) (Some v) a m = refl

pub row_overridden_lem : (o : FontInfoOverride) (a : Attributes) (m : ℕ) → row_overridden o (row_of a m) ≡ row_of (overridden a o) m
unfolding row_overridden overridden
row_overridden_lem o a m = by_cases o.width o.style o.weight a m

-- ---- overrides in order

-- the row of the face i after an override
row_after_one : (o : Override) (rows : List Row) (i : ℕ) (f : FontInfo) (m : ℕ) → i < length rows → get_or rows i no_row ≡ row_of f.attributes m
    → get_or (set rows o.face (row_overridden o.given (get_or rows o.face no_row))) i no_row ≡ row_of (cond (eqb o.face i) (overridden_by o f) f).attributes m
unfolding overridden_by with_override
row_after_one o rows i f m l e = go (eqb o.face i) refl
  where
    changed : Row
    changed = row_overridden o.given (get_or rows o.face no_row)

    go : (b : Bool) → eqb o.face i ≡ b → get_or (set rows o.face changed) i no_row ≡ row_of (cond b (overridden_by o f) f).attributes m
    go true t =
        let here : o.face ≡ i = eqb-true o.face i t in
        ap (λ (k : ℕ). get_or (set rows o.face changed) k no_row) (sym here) ∙ get_or-set_same rows o.face changed no_row (omega arith)
        ∙ ap (row_overridden o.given) (ap (λ (k : ℕ). get_or rows k no_row) here ∙ e) ∙ row_overridden_lem o.given f.attributes m
    go false t = get_or-set_other rows o.face i changed no_row (λ q. eqb-false o.face i t (sym q)) ∙ e

pub row_after : (os : List Override) (rows : List Row) (i : ℕ) (f : FontInfo) (m : ℕ) → i < length rows → get_or rows i no_row ≡ row_of f.attributes m
    → get_or (rows_after os rows) i no_row ≡ row_of (after_overrides os i f).attributes m
unfolding rows_after after_overrides
row_after [] rows i f m l e = e
row_after (o ∷ os) rows i f m l e =
    row_after os _ i _ m (omega (arith, length-set rows o.face (row_overridden o.given (get_or rows o.face no_row)))) (row_after_one o rows i f m l e)
