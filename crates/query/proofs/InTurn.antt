-- The refusals of a face entry's font come in the turn that `specs/InTurn.antt` says, each at its place. Assumes nothing.
use Prim.Native.Nat.{ℕ, ◌+◌, ◌*◌, ◌≤◌, ◌<◌}
use mathlib.Core.Path.{◌≡◌, refl, sym, ap, ◌∙◌}
use mathlib.Core.Bool.{false}
use mathlib.Core.List.{List}
use native.Mathlib.Omega.{arith}
use lib.ListN.{length}
use borrow.Author.Tests.{leb-true, le-leb, lt-leb, lt-ltb, le-ltb, eq-eqb, ne_eqb}
use Rattle.font.specs.Collection.{is_collection, header_fits, font_count, font_start}
use Rattle.font.specs.Font.{refusal_at, font_refusal}
use Rattle.font.proofs.Lookup.{past_file}
use Rattle.font.proofs.FaceOf.{refused_at_lem}
use Rattle.font.proofs.Damage.{gives_numbered_31}
use Rattle.font.proofs.Collections as Collections
use Rattle.query.specs.Reader.{Got, past_end, bad_directory, no_font, refused, got, done, onward, ◌>>=◌, field, tested}
use Rattle.query.specs.Fields.{half, word, NumberedFont, font_row, font_bytes, sized_file, number_below, refused_at, font_number, font_taken, numbered, font_file}
use Rattle.query.specs.InTurn.{file, end, stated, asked, start, CollectionThere, InTurn, LostInTurn}
use Rattle.query.proofs.ExactLists.{then_is}

-- length and bytes are read, and what follows is left
module _ (s : List ℕ) (p : ℕ) (inside : end s p ≤ length s) where
  sized : sized_file s p ≡ got (file s p) (end s p)
  unfolding sized_file word field font_bytes ◌>>=◌ onward
  sized = simp (le-leb (p + 4) (length s) (omega arith), le-leb (end s p) (length s) inside)

  onwards : {g : Got NumberedFont} → numbered p (file s p) s (end s p) ≡ g → font_file s p ≡ g
  unfolding font_file
  onwards e = then_is sized_file (numbered p) s p (file s p) (end s p) sized e

  -- the number ends the entry or is that of the font
  after_number : {g : Got ℕ} → font_number p (file s p) s (end s p) ≡ g → {h : Got NumberedFont} → onward g (λ i q. font_taken p (record { file = file s p; number = i }) s q) ≡ h
      → font_file s p ≡ h
  unfolding numbered ◌>>=◌
  after_number e f = onwards (rw e f)

  font_refused : (i q n : ℕ) → font_number p (file s p) s (end s p) ≡ got i q → font_refusal (file s p) i ≡ n → (n ≡ 0 → ⊥) → font_file s p ≡ refused (font_row n) p
  unfolding onward font_taken
  font_refused i q n found e h = after_number found (simp (e, ne_eqb n 0 h))

module _ (s : List ℕ) (p : ℕ) (there : CollectionThere s p) where
  count : stated s p ≡ font_count (file s p)
  count = Collections.stated (file s p) 0 there.is

  short : length (file s p) < 12 → font_number p (file s p) s (end s p) ≡ refused bad_directory p
  unfolding font_number header_fits refused_at
  short l = simp (there.is, lt-leb 12 (length (file s p)) l)

  module _ (header : 12 ≤ length (file s p)) where
    number_is : font_number p (file s p) s (end s p) ≡ number_below (font_count (file s p)) s (end s p)
    unfolding font_number header_fits
    number_is = simp (there.is, le-leb 12 (length (file s p)) header)

    lacks : length s < end s p + 2 → font_number p (file s p) s (end s p) ≡ refused past_end (end s p)
    unfolding number_below half tested field onward
    lacks l = number_is ∙ simp (lt-leb (end s p + 2) (length s) l)

    module _ (behind : end s p + 2 ≤ length s) where
      too_high : stated s p ≤ asked s p → font_number p (file s p) s (end s p) ≡ refused no_font (end s p)
      unfolding number_below half tested field onward
      too_high l = number_is ∙ simp (le-leb (end s p + 2) (length s) behind, le-ltb (asked s p) (font_count (file s p)) (omega (arith, count)))

      module _ (below : asked s p < stated s p) where
        found : font_number p (file s p) s (end s p) ≡ got (asked s p) (end s p + 2)
        unfolding number_below half tested field onward
        found = number_is ∙ simp (le-leb (end s p + 2) (length s) behind, lt-ltb (asked s p) (font_count (file s p)) (omega (arith, count)))

        -- the font layer's refusal is that of the font where it begins
        refusal : {n : ℕ} → n ≡ font_start (file s p) (asked s p) → font_refusal (file s p) (asked s p) ≡ refusal_at (file s p) n
        unfolding header_fits
        refusal e =
            refused_at_lem (file s p) (asked s p) (le-leb 12 (length (file s p)) header) (omega (arith, below, count)) ∙ ap (refusal_at (file s p)) (sym e)

        cut : length (file s p) < 12 + 4 * stated s p → font_refusal (file s p) (asked s p) ≡ 21
        unfolding refusal_at
        cut l =
            refusal (Collections.offsets_cut (file s p) (asked s p) there.is l)
            ∙ rw (sym (past_file (file s p) (length (file s p)) (omega arith)))

        at_start : 12 + 4 * stated s p ≤ length (file s p) → font_refusal (file s p) (asked s p) ≡ refusal_at (file s p) (start s p)
        at_start l = refusal (Collections.at_offset (file s p) (asked s p) there.is below l)

        found_refused : (n : ℕ) → font_refusal (file s p) (asked s p) ≡ n → (n ≡ 0 → ⊥) → font_file s p ≡ refused (font_row n) p
        found_refused n = font_refused s p there.inside (asked s p) (end s p + 2) n found

        font_taken_lem : font_refusal (file s p) (asked s p) ≡ 0 → font_file s p ≡ got (record { file = file s p; number = asked s p }) (end s p + 2)
        unfolding onward font_taken
        font_taken_lem e = after_number s p there.inside found (simp (eq-eqb (font_refusal (file s p) (asked s p)) 0 e))

  pub in_turn_lem : InTurn s p
  unfolding onward font_row
  in_turn_lem =
      record {
        header = λ l. after_number s p there.inside (short l) refl;
        lacking = λ h l. after_number s p there.inside (lacks h l) refl;
        over = λ h b l. after_number s p there.inside (too_high h b l) refl;
        offsets = λ h b l c. found_refused h b l 21 (cut h b l c) (λ z. omega (arith, z));
        font = λ b l c z. let h : 12 ≤ length (file s p) = omega arith in found_refused h b l (refusal_at (file s p) (start s p)) (at_start h b l c) z;
        taken = λ b l c z. let h : 12 ≤ length (file s p) = omega arith in font_taken_lem h b l (at_start h b l c ∙ z);
      }

-- a lone font has no number behind its file
no_number : (s : List ℕ) (p : ℕ) → is_collection (file s p) ≡ false → font_number p (file s p) s (end s p) ≡ got 0 (end s p)
unfolding font_number done
no_number s p e = simp e

-- 31, of a lone font and of a collection's
pub lost_in_turn : (s : List ℕ) (p : ℕ) → LostInTurn s p
unfolding font_row header_fits
lost_in_turn s p =
    record {
      lone = λ inside e l. font_refused s p inside 0 (end s p) 31 (no_number s p e) (gives_numbered_31 (file s p) 0 l) (λ z. omega (arith, z));
      in_collection =
          λ behind e l.
          let there : CollectionThere s p = record { inside = omega arith; is = e } in
          let header : 12 ≤ length (file s p) = leb-true 12 (length (file s p)) l.header in
          found_refused s p there header behind (omega (arith, l.below, count s p there)) 31 (gives_numbered_31 (file s p) (asked s p) l) (λ z. omega (arith, z));
    }
