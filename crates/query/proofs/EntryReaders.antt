-- What every reader of a job keeps to (`Readers.antt`), of fonts, lists and entries.
use Prim.Native.Nat.{ℕ, ◌+◌, ◌≤◌}
use mathlib.Core.Path.{◌≡◌, refl, sym, ap, ◌∙◌}
use mathlib.Core.Bool.{Bool, true, false, cond}
use mathlib.Core.List.{List, ◌++◌}
use mathlib.Core.Logic.{inl, inr, ⊎_elim}
use native.Mathlib.Omega.{arith}
use lib.ListN.{length, take, drop, length-append, length-drop}
use lib.Seq.{take-append-le, drop-append-le}
use lib.Dec.{leb, eqb}
use borrow.Author.Tests.{le-leb, leb-true}
use Rattle.font.specs.Collection.{is_collection, header_fits, font_count}
use Rattle.font.specs.Font.{font_refusal}
use Rattle.query.specs.Reader.{Refusal, past_end, over_limit, not_held, bad_directory, no_charmap, many_axes, unknown, no_font, damaged_table, number, Got, refused, got, Reader, done, onward, ◌>>=◌}
use Rattle.query.specs.Fields.{word, count, counted, byte_counted, held_byte, mask, kind, spare_byte, or_spare, NumberedFont, font_row, font_bytes, sized_file, number_below, refused_at, font_number, font_taken, numbered, font_file}
use Rattle.query.specs.Entries.{read_face, read_angle, read_style, read_width, read_weight, style_or_spare, read_given, read_pair, read_override, read_family, read_requested, read_request}
use Rattle.query.proofs.Readers.{place, Goes, Kept, Back, Passes, passes_then, Lacked, Reads, never, reads_done, reads_then, reads_many, OfField, Field, reads_field, tested_field, byte_field, half_field, word_field, ratio_field, value_field, spare_word_field, face_number_field}

-- ---- a font file: its length and bytes are one field

passes_font_bytes : (at n : ℕ) → Passes (font_bytes at n)
unfolding font_bytes Goes Kept Back
passes_font_bytes at n =
    record {
      goes = λ s p. on s p (leb (p + n) (length s));
      kept = λ s u p. keep s u p (leb (p + n) (length s)) refl;
      back = λ s u p. again s u p (leb (p + n) (length (s ++ u)));
    }
  where
    on : (s : List ℕ) (p : ℕ) (b : Bool) → Goes p (cond b (got (take n (drop p s)) (p + n)) (refused past_end at))
    on s p true = omega arith
    on s p false = tt

    part : (s u : List ℕ) (p : ℕ) → p + n ≤ length s → take n (drop p (s ++ u)) ≡ take n (drop p s)
    part s u p h =
        ap (λ (z : List ℕ). take n z) (drop-append-le p s u (omega arith)) ∙ take-append-le n (drop p s) u (rw (length-drop p s) (omega arith))

    keep : (s u : List ℕ) (p : ℕ) (b : Bool) → leb (p + n) (length s) ≡ b
        → Kept (cond b (got (take n (drop p s)) (p + n)) (refused past_end at)) (font_bytes at n (s ++ u) p)
    keep s u p true e =
        let h : p + n ≤ length s = leb-true (p + n) (length s) e in
        simp (le-leb (p + n) (length (s ++ u)) (omega (arith, length-append s u)), part s u p h)
    keep s u p false e = inl refl

    again : (s u : List ℕ) (p : ℕ) (b : Bool) → Back (length s) (font_bytes at n s p) (cond b (got (take n (drop p (s ++ u))) (p + n)) (refused past_end at))
    again s u p true = λ l. simp (le-leb (p + n) (length s) l, part s u p l)
    again s u p false = tt

file_field : Field sized_file
unfolding sized_file font_bytes ◌>>=◌ onward OfField number
file_field =
    record {
      passes = record { goes = λ s p. (passes p).goes s p; kept = λ s u p. (passes p).kept s u p; back = λ s u p. (passes p).back s u p };
      ends = ends;
      starts = λ s. rw (word_field.starts s) refl;
    }
  where
    passes : (p : ℕ) → Passes (word >>= font_bytes p)
    passes p = passes_then word_field.passes (λ n. passes_font_bytes p n)

    ends : (s : List ℕ) (p : ℕ) → OfField p (length s) (sized_file s p)
    ends s p = first (word s p) (word_field.ends s p)
      where
        second : (n q : ℕ) (b : Bool) → leb (q + n) (length s) ≡ b → OfField p (length s) (cond b (got (take n (drop q s)) (q + n)) (refused past_end p))
        second n q true e = leb-true (q + n) (length s) e
        second n q false e = (refl, refl)

        first : (x : Got ℕ) → OfField p (length s) x → OfField p (length s) (onward x (λ n q. font_bytes p n s q))
        first (refused w q) d = d
        first (got n q) d = second n q (leb (q + n) (length s)) refl

-- ---- what follows the bytes can be refused at the length field, which is early

abbrev Early : ℕ → ℕ → Type 0
Early at q = q ≡ at

reads_early : {A : Type 0} (w : Refusal) (at : ℕ) → eqb (number w) 27 ≡ false → Reads {A = A} (Early at) (refused_at w at)
unfolding refused_at Goes Kept Back Lacked place
reads_early w at row =
    record {
      passes = record { goes = λ s p. tt; kept = λ s u p. inr refl; back = λ s u p. tt };
      lacks = record { lacks = λ s u p. (row, inl refl) };
      within = record { stays = λ s p i h. i at refl };
    }

number_field : (n : ℕ) → Field (number_below n)
unfolding number_below number
number_field n = tested_field no_font _ refl half_field

reads_number : (at : ℕ) (file : List ℕ) → Reads (Early at) (font_number at file)
unfolding font_number number
reads_number at file = go (is_collection file) (header_fits file)
  where
    go : (a b : Bool) → Reads (Early at) (cond a (cond b (number_below (font_count file)) (refused_at bad_directory at)) (done 0))
    go true true = reads_field (number_field (font_count file))
    go true false = reads_early bad_directory at refl
    go false b = reads_done 0

font_row_lem : (n : ℕ) → eqb (number (font_row n)) 27 ≡ false
unfolding font_row number
font_row_lem n = go (eqb n 21) (eqb n 31) (eqb n 22)
  where
    go : (b d c : Bool) → eqb (number (cond b bad_directory (cond d damaged_table (cond c no_charmap many_axes)))) 27 ≡ false
    go true d c = refl
    go false true c = refl
    go false false true = refl
    go false false false = refl

reads_taken : (at : ℕ) (font : NumberedFont) → Reads (Early at) (font_taken at font)
unfolding font_taken done refused_at
reads_taken at font = go (eqb (font_refusal font.file font.number) 0) (font_row (font_refusal font.file font.number)) (font_row_lem _)
  where
    go : (b : Bool) (w : Refusal) → eqb (number w) 27 ≡ false → Reads (Early at) (λ s p. cond b (got font p) (refused w at))
    go true w row = reads_done font
    go false w row = reads_early w at row

reads_numbered : (at : ℕ) (file : List ℕ) → Reads (Early at) (numbered at file)
unfolding numbered
reads_numbered at file = reads_then (reads_number at file) (λ i. reads_taken at _)

-- of the whole the length field is the beginning, and no longer early
reads_font : Reads never font_file
unfolding font_file ◌>>=◌ onward Goes Back Lacked place
reads_font =
    record {
      passes = record { goes = λ s p. (passes p).goes s p; kept = λ s u p. (passes p).kept s u p; back = λ s u p. (passes p).back s u p };
      lacks = record { lacks = λ s u p. lack s u p (sized_file (s ++ u) p) (file_field.passes.goes (s ++ u) p) (file_field.passes.back s u p) ((reads_field {early = never} file_field).lacks.lacks s u p) };
      within = record { stays = λ s p i h. inside s p h (sized_file s p) ((reads_field {early = never} file_field).within.stays s p i h) };
    }
  where
    passes : (p : ℕ) → Passes (sized_file >>= numbered p)
    passes p = passes_then file_field.passes (λ file. (reads_numbered p file).passes)

    -- cut off before the length field
    before : (s : List ℕ) (p : ℕ) → p ≡ length s → font_file s p ≡ refused past_end (length s)
    before s p e = rw e (rw (file_field.starts s) refl)

    after : (s : List ℕ) (p q : ℕ) (file : List ℕ) → p ≤ q → (q ≤ length s → sized_file s p ≡ got file q) → (y : Got NumberedFont)
        → Lacked (Early p) q (length s) (numbered p file s q) y → Lacked never p (length s) (font_file s p) y
    after s p q file l c (got f t) d = tt
    after s p q file l c (refused w t) d =
        (d.0, inr (⊎_elim (λ e. (omega (arith, e), λ z. before s p (sym e ∙ z))) (λ m. (omega (arith, m.0), λ z. rw (c (omega (arith, m.0, z))) (m.1 z))) d.1))

    lack : (s u : List ℕ) (p : ℕ) (y : Got (List ℕ)) → Goes p y → Back (length s) (sized_file s p) y → Lacked never p (length s) (sized_file s p) y
        → Lacked never p (length s) (font_file s p) (onward y (λ file q. numbered p file (s ++ u) q))
    lack s u p (refused w q) l c d = (d.0, ⊎_elim (λ e. inl e) (λ m. inr (m.0, λ e. rw (m.1 e) refl)) d.1)
    lack s u p (got file q) l c d = after s p q file l c (numbered p file (s ++ u) q) ((reads_numbered p file).lacks.lacks s u q)

    inside : (s : List ℕ) (p : ℕ) → p ≤ length s → (x : Got (List ℕ)) → place x ≤ length s → place (onward x (λ file q. numbered p file s q)) ≤ length s
    inside s p h (refused w q) l = l
    inside s p h (got file q) l = (reads_numbered p file).within.stays s q (λ t e. omega (arith, e)) l

-- ---- lists and entries

pub reads_counted : {A : Type 0} (limit : ℕ) {r : Reader A} → Reads never r → Reads never (counted limit r)
unfolding counted count number
reads_counted limit f = reads_then (reads_field (tested_field over_limit _ refl half_field)) (λ n. reads_many n f)

reads_byte_counted : {A : Type 0} {r : Reader A} → Reads never r → Reads never (byte_counted r)
unfolding byte_counted
reads_byte_counted f = reads_then (reads_field byte_field) (λ n. reads_many n f)

reads_or_spare : {A : Type 0} (b : Bool) (none : A) {r : Reader A} → Reads never r → Reads never (or_spare b none r)
unfolding or_spare
reads_or_spare true none f = f
reads_or_spare false none f = reads_then (reads_field spare_word_field) (λ x. reads_done none)

pub reads_face : Reads never read_face
unfolding read_face held_byte number
reads_face = reads_then (reads_field (tested_field not_held _ refl byte_field)) (λ h. reads_then reads_font (λ f. reads_done _))

reads_style : Reads never read_style
unfolding read_style read_angle kind number
reads_style =
    reads_then (reads_field (tested_field unknown _ refl byte_field))
    (λ k. reads_then (reads_or_spare _ _ (reads_then (reads_field value_field) (λ x. reads_done _))) (λ a. reads_done _))

reads_style_or_spare : (b : Bool) → Reads never (style_or_spare b)
unfolding style_or_spare spare_byte number
reads_style_or_spare true = reads_then reads_style (λ x. reads_done _)
reads_style_or_spare false =
    reads_then (reads_field (tested_field unknown _ refl byte_field)) (λ k. reads_then (reads_field spare_word_field) (λ a. reads_done _))

reads_given : (m : ℕ) → Reads never (read_given m)
unfolding read_given read_width read_weight
reads_given m =
    reads_then (reads_or_spare _ _ (reads_then (reads_field ratio_field) (λ x. reads_done _)))
    (λ w. reads_then (reads_style_or_spare _)
    (λ t. reads_then (reads_or_spare _ _ (reads_then (reads_field value_field) (λ x. reads_done _))) (λ g. reads_done _)))

pub reads_override : (n : ℕ) → Reads never (read_override n)
unfolding read_override mask read_pair number
reads_override n =
    reads_then (reads_field (face_number_field n))
    (λ f. reads_then (reads_field (tested_field unknown _ refl byte_field))
    (λ m. reads_then (reads_given m)
    (λ g. reads_then (reads_byte_counted (reads_then (reads_field word_field) (λ t. reads_then (reads_field value_field) (λ x. reads_done _)))) (λ ps. reads_done _))))

pub reads_family : (n : ℕ) → Reads never (read_family n)
unfolding read_family
reads_family n = reads_then (reads_counted _ (reads_field (face_number_field n))) (λ m. reads_done _)

pub reads_request : Reads never read_request
unfolding read_request read_requested
reads_request =
    reads_then (reads_field half_field)
    (λ m. reads_then (reads_then (reads_field ratio_field) (λ w. reads_then reads_style (λ t. reads_then (reads_field value_field) (λ g. reads_done _))))
    (λ a. reads_then (reads_byte_counted (reads_field half_field)) (λ f. reads_then (reads_byte_counted (reads_field half_field)) (λ b. reads_done _))))
