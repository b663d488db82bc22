-- A font file, with the number behind a collection's, is read exactly.
use Prim.Native.Nat.{ℕ, ◌+◌, ◌≤◌, ◌<◌}
use mathlib.Core.Path.{◌≡◌, refl, sym, ap, ◌∙◌}
use mathlib.Core.Bool.{Bool, true, false, cond}
use mathlib.Core.List.{List, [], ◌++◌}
use native.Mathlib.Omega.{arith}
use lib.ListN.{length, take, drop, length-append, length-drop, take-append-drop}
use lib.Seq.{drop-drop, take-append_seam, length-take-le}
use lib.Dec.{leb, eqb}
use borrow.Author.Tests.{le-leb, leb-true, eqb-true, eq-eqb}
use Rattle.font.specs.Collection.{is_collection, header_fits, font_count}
use Rattle.font.specs.Font.{font_refusal}
use Rattle.font.proofs.FaceOf as FaceOf
use Rattle.query.specs.Reader.{Refusal, past_end, bad_directory, refused, got, done}
use Rattle.query.specs.Fields.{word, NumberedFont, font_row, font_bytes, sized_file, number_below, refused_at, font_number, font_taken, numbered, font_file}
use Rattle.query.specs.Layout.{Bytes, bytes16, bytes32, layout_number, layout_font, Fits16, FontFits}
use Rattle.query.proofs.Ends.{then_got}
use Rattle.query.proofs.Stands.{Stands, join, split, none}
use Rattle.query.proofs.Exact.{Stood, Exact, there32, exact_word, exact_number_below}
use Rattle.query.proofs.ExactLists.{then_is, done_got, stood_as}

-- ---- the bytes

record Part (s : List ℕ) (p n : ℕ) (f : List ℕ) (q : ℕ) : Type 0 where
  is : take n (drop p s) ≡ f
  ends : q ≡ p + n
  in_job : p + n ≤ length s

bytes_got : (place n : ℕ) (s : List ℕ) (p : ℕ) (f : List ℕ) (q : ℕ) → font_bytes place n s p ≡ got f q → Part s p n f q
unfolding font_bytes
bytes_got place n s p f q = go (leb (p + n) (length s)) refl
  where
    go : (b : Bool) → leb (p + n) (length s) ≡ b → cond b (got (take n (drop p s)) (p + n)) (refused past_end place) ≡ got f q → Part s p n f q
    go true t e = record { is = cc; ends = cc; in_job = leb-true (p + n) (length s) t }
    go false t e = absurd (let z : ◌≡◌ {A = ℕ} 0 1 = cc in omega arith)

-- a part of the job stands in it
part_stands : (s : List ℕ) (p n : ℕ) (f : List ℕ) (q : ℕ) → Part s p n f q → (length f ≡ n) × Stands s p f q
part_stands s p n f q h =
    let long : length f ≡ n = rw (← h.is) (length-take-le n (drop p s) (rw (length-drop p s) (omega (arith, h.in_job)))) in (
      long,
      record {
        next = omega (arith, h.ends);
        rest = sym (take-append-drop n (drop p s)) ∙ (rw (h.is, drop-drop n p s, ← h.ends) refl);
      },
    )

bytes_is : (place : ℕ) (s : List ℕ) (p : ℕ) (f : List ℕ) (q : ℕ) → p ≤ length s → Stands s p f q → font_bytes place (length f) s p ≡ got f q
unfolding font_bytes
bytes_is place s p f q l g =
    let in_job : q ≤ length s = omega (arith, length-drop p s, ap length g.rest, length-append f (drop q s), g.next) in
    let part : take (length f) (drop p s) ≡ f = ap (λ (z : List ℕ). take (length f) z) g.rest ∙ take-append_seam f (drop q s) in
    let end : p + length f ≡ q = omega (arith, g.next) in
    simp (end, le-leb q (length s) in_job, part)

-- ---- the number

-- that of a lone font is 0, and not laid out
lone_count : (file : List ℕ) → is_collection file ≡ false → font_count file ≡ 1
unfolding font_count
lone_count file e = rw e

abbrev Below : List ℕ → ℕ → Type 0
Below file i = (i < font_count file) × Fits16 i

number_sound : (place : ℕ) (file s : List ℕ) → Bytes s → (p i q : ℕ) → font_number place file s p ≡ got i q
    → Stood s p (layout_number (record { file = file; number = i })) q (Below file i)
unfolding font_number layout_number refused_at
number_sound place file s B p i q = go (is_collection file) (header_fits file) refl
  where
    go : (a b : Bool) → is_collection file ≡ a → cond a (cond b (number_below (font_count file)) (refused_at bad_directory place)) (done 0) s p ≡ got i q
        → Stood s p (cond a (bytes16 i) []) q (Below file i)
    go true true e h = (exact_number_below (font_count file)).sound s B p i q h
    go true false e h = absurd (let z : ◌≡◌ {A = ℕ} 0 1 = cc in omega arith)
    go false b e h =
        let d = done_got 0 i s p q h in
        record { stands = rw (← d.1) (none s p); within = (omega (arith, lone_count file e, d.0), omega (arith, d.0)) }

number_is : (place : ℕ) (file s : List ℕ) (p i q : ℕ) → header_fits file ≡ true → Below file i
    → Stands s p (layout_number (record { file = file; number = i })) q → font_number place file s p ≡ got i q
unfolding font_number layout_number done
number_is place file s p i q header w = rw header (go (is_collection file) refl)
  where
    go : (a : Bool) → is_collection file ≡ a → Stands s p (cond a (bytes16 i) []) q
        → cond a (number_below (font_count file)) (done 0) s p ≡ got i q
    go true e h = (exact_number_below (font_count file)).complete s p i q w h
    go false e h =
        let zero : i ≡ 0 = omega (arith, lone_count file e, w.0) in
        let end : q ≡ p = omega (arith, h.next) in
        rw (zero, end)

-- ---- a font that is taken

record Taken (f a : NumberedFont) (p q : ℕ) : Type 0 where
  is : f ≡ a
  ends : p ≡ q
  taken : font_refusal f.file f.number ≡ 0

taken_got : (place : ℕ) (f : NumberedFont) (s : List ℕ) (p : ℕ) (a : NumberedFont) (q : ℕ) → font_taken place f s p ≡ got a q → Taken f a p q
unfolding font_taken
taken_got place f s p a q = go (eqb (font_refusal f.file f.number) 0) (font_row (font_refusal f.file f.number)) refl
  where
    go : (b : Bool) (w : Refusal) → eqb (font_refusal f.file f.number) 0 ≡ b → cond b (got f p) (refused w place) ≡ got a q → Taken f a p q
    go true w t e = record { is = cc; ends = cc; taken = eqb-true (font_refusal f.file f.number) 0 t }
    go false w t e = absurd (let z : ◌≡◌ {A = ℕ} 0 1 = cc in omega arith)

taken_is : (place : ℕ) (f : NumberedFont) (s : List ℕ) (p : ℕ) → font_refusal f.file f.number ≡ 0 → font_taken place f s p ≡ got f p
unfolding font_taken
taken_is place f s p z = simp (eq-eqb (font_refusal f.file f.number) 0 z)

-- ---- all of it

font_sound : (s : List ℕ) → Bytes s → (p : ℕ) (a : NumberedFont) (q : ℕ) → font_file s p ≡ got a q → Stood s p (layout_font a) q (FontFits a)
unfolding font_file sized_file numbered layout_font
font_sound s B p a q h =
    let sized = then_got sized_file (numbered p) s p a q h in
    let t = then_got word (font_bytes p) s p sized.0 sized.1 sized.2 in
    let v = then_got (font_number p sized.0) _ s sized.1 a q sized.3 in
    let k = taken_got p (record { file = sized.0; number = v.0 }) s v.1 a q v.3 in
    let f = exact_word.sound s B p t.0 t.1 t.2 in
    let g = part_stands s t.1 t.0 sized.0 sized.1 (bytes_got p t.0 s t.1 sized.0 sized.1 t.3) in
    let n = number_sound p sized.0 s B sized.1 v.0 v.1 v.2 in
    stood_as layout_font FontFits k.is k.ends
    (record {
      stands = rw g.0 (join f.stands (join g.1 n.stands));
      within = record { long = rw g.0 f.within; number = n.within.1; taken = k.taken };
    })

font_complete : (s : List ℕ) (p : ℕ) (a : NumberedFont) (q : ℕ) → FontFits a → Stands s p (layout_font a) q → font_file s p ≡ got a q
unfolding font_file sized_file numbered layout_font
font_complete s p a q w h =
    let d = split (bytes32 (length a.file)) (a.file ++ layout_number a) h in
    let e = split a.file (layout_number a) d.second in
    let t = there32 (length a.file) d.first in
    let is = FaceOf.taken a.file a.number w.taken in
    then_is sized_file (numbered p) s p a.file _
    (then_is word (font_bytes p) s p (length a.file) _ (exact_word.complete s p (length a.file) _ w.long d.first)
    (bytes_is p s _ a.file _ (omega (arith, t.in_job, t.ends)) e.first))
    (then_is (font_number p a.file) _ s _ a.number q (number_is p a.file s _ a.number q is.header (is.below, w.number) e.second)
    (taken_is p a s q w.taken))

pub exact_font : Exact font_file layout_font FontFits
exact_font = record { sound = font_sound; complete = font_complete }
