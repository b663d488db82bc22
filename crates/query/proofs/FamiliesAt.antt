-- What the reader of a family or of a request reads is what lies at its position.
use Prim.Native.Nat.{ℕ, zero, suc, ◌+◌, ◌*◌, ◌≤◌, ◌<◌}
use mathlib.Core.Path.{◌≡◌, refl, sym, ap, ◌∙◌}
use mathlib.Core.List.{List, [], ◌∷◌}
use native.Mathlib.Omega.{arith}
use lib.ListN.{length, get_or}
use borrow.Author.Tests.{leb-true, lt-leb, ltb-true}
use Rattle.font.specs.Tables.{u16_at}
use Rattle.font.proofs.Tabulated.{element}
use Rattle.query.specs.Sections.{Requests}
use Rattle.query.specs.Sizes.{most_bytes, most_places, request_head}
use Rattle.query.specs.Reader.{Reader, got, done, many}
use Rattle.query.specs.Fields.{byte, half, ratio, value, count, counted, byte_counted, face_number}
use Rattle.query.specs.Entries.{Family, Request, read_style, read_family, read_requested, read_request}
use Rattle.query.specs.Values.{numbers_at, attributes_at, list_at, list_end, request_at}
use Rattle.query.specs.CallTables.{FamilyIn, RequestIn, nowhere}
use Rattle.query.proofs.Ends.{ReadsAt, then_got, then_at, same_got}
use Rattle.query.proofs.Leaves.{byte_read, half_read, count_read, face_number_read, counted_length, entry_starts}
use Rattle.query.proofs.EvenEntries.{many_even}
use Rattle.query.proofs.FacesAt.{field_at, ratio_at, value_at, style_at_lem}

-- ---- a family

-- what holds of every entry that is read
many_each : {A : Type 0} (P : A → Type 0) (r : Reader A) (s : List ℕ) → ((p : ℕ) (a : A) (q : ℕ) → r s p ≡ got a q → P a)
    → (n p : ℕ) (xs : List A) (q : ℕ) → many n r s p ≡ got xs q → (i : ℕ) (d : A) → i < length xs → P (get_or xs i d)
unfolding many done
many_each P r s each zero p xs q e i d l = absurd (let none : length xs ≡ 0 = ap length (same_got e).0 in omega arith)
many_each {A} P r s each (suc n) p xs q e i d l =
    let a = then_got r _ s p xs q e in
    let b = then_got (many n r) _ s a.1 xs q a.3 in
    let is : xs ≡ a.0 ∷ b.0 = (same_got b.3).0 in
    rw is (front a.0 b.0 (each p a.0 a.1 a.2) (λ k m. many_each P r s each n a.1 b.0 b.1 b.2 k d m) i (rw is at l))
  where
    front : (x : A) (ys : List A) → P x → ((k : ℕ) → k < length ys → P (get_or ys k d)) → (k : ℕ) → k < length (x ∷ ys) → P (get_or (x ∷ ys) k d)
    front x ys h t zero m = h
    front x ys h t (suc k) m = t k (omega arith)

-- entries that each end in the job end there together
many_inside : {A : Type 0} (r : Reader A) (s : List ℕ) → ((p : ℕ) (a : A) (q : ℕ) → r s p ≡ got a q → q ≤ length s)
    → (n p : ℕ) (xs : List A) (q : ℕ) → p ≤ length s → many n r s p ≡ got xs q → q ≤ length s
unfolding many done
many_inside r s each zero p xs q l e = omega (arith, (same_got e).1)
many_inside r s each (suc n) p xs q l e =
    let a = then_got r _ s p xs q e in
    let b = then_got (many n r) _ s a.1 xs q a.3 in
    omega (arith, many_inside r s each n a.1 b.0 b.1 (each p a.0 a.1 a.2) b.2, (same_got b.3).1)

pub family_in : (faces : ℕ) (s : List ℕ) (p : ℕ) (m : Family) (q : ℕ) → length s ≤ most_bytes → read_family faces s p ≡ got m q → FamilyIn s p faces m.members
unfolding read_family counted done
family_in faces s p m q short e =
    let a = then_got (counted most_places (face_number faces)) _ s p m q e in
    let is : m ≡ record { members = a.0 } = (same_got a.3).0 in
    let first = then_got (count most_places) _ s p a.0 a.1 a.2 in
    let number = count_read most_places s p first.0 first.1 first.2 in
    let long = counted_length most_places (face_number faces) s p a.0 a.1 a.2 in
    let numbers = then_at (count most_places) _ (p + 2) (λ n u h. field_at (count_read most_places s p n u h)) (omega arith) a.2 in
    let each = (many_even 2 (u16_at s) (face_number faces) s (λ t n u h. field_at (face_number_read faces s t n u h)) (u16_at s p) (p + 2) a.0 a.1 numbers).0 in
    let ends = (many_even 2 (u16_at s) (face_number faces) s (λ t n u h. field_at (face_number_read faces s t n u h)) (u16_at s p) (p + 2) a.0 a.1 numbers).1 in
    let inside =
    many_inside (face_number faces) s (λ t n u h. (let r = face_number_read faces s t n u h in omega (arith, r.next, r.inside))) (u16_at s p) (p + 2) a.0 a.1 number.inside numbers in
    rw is
    (record {
      low = omega (arith, number.inside);
      whole = λ h. omega (arith, long, ends, inside);
      count = sym long;
      few = omega (arith, number.value, leb-true first.0 most_places number.passed);
      member = λ i l. sym (ap (λ (xs : List ℕ). get_or xs i 0) each ∙ element (λ k. u16_at s (p + 2 + 2 * k)) (u16_at s p) i 0 (omega arith));
      known = λ i l.
          many_each (λ n. n < faces) (face_number faces) s (λ t n u h. ltb-true n faces (face_number_read faces s t n u h).passed) (u16_at s p) (p + 2) a.0 a.1 numbers i 0 l;
    })

-- past the end of every job there is none
pub unknown_family : (s : List ℕ) (faces : ℕ) → length s ≤ most_bytes → FamilyIn s nowhere faces []
unfolding u16_at
unknown_family s faces l =
    record {
      low = omega arith;
      whole = λ h. absurd (h refl);
      count = simp (lt-leb (nowhere + 2) (length s) (omega arith));
      few = omega arith;
      member = λ i k. absurd (omega arith);
      known = λ i k. absurd (omega arith);
    }

-- ---- a request

numbers_at_lem : (s : List ℕ) (p n : ℕ) → ReadsAt (many n half) s p (numbers_at s p n) (p + 2 * n)
unfolding numbers_at
numbers_at_lem s p n = many_even 2 (u16_at s) half s (λ t a u h. field_at (half_read s t a u h)) n p

list_at_lem : (s : List ℕ) (p : ℕ) → ReadsAt (byte_counted half) s p (list_at s p) (list_end s p)
unfolding byte_counted list_at list_end
list_at_lem s p xs q e = numbers_at_lem s (p + 1) (get_or s p 0) xs q (then_at byte _ (p + 1) (λ a u h. field_at (byte_read s p a u h)) (omega arith) e)

requested_at : (s : List ℕ) (p : ℕ) → ReadsAt read_requested s p (attributes_at s p) (p + 13)
unfolding read_requested done attributes_at
requested_at s p a q e =
    let width = then_at ratio _ (p + 4) (ratio_at s p) (omega arith) e in
    let style = then_at read_style _ (p + 9) (style_at_lem s (p + 4)) (omega arith) width in
    same_got (then_at value _ (p + 13) (value_at s (p + 9)) (omega arith) style)

pub request_in : (s : List ℕ) (p : ℕ) (r : Request) (q : ℕ) → read_request s p ≡ got r q → RequestIn s p r
unfolding read_request done request_at
request_in s p r q e =
    let lists = p + request_head in
    let most = then_at half _ (p + 2) (λ a u h. field_at (half_read s p a u h)) (omega arith) e in
    let attributes = then_at read_requested _ lists (requested_at s (p + 2)) (omega arith) most in
    let families = then_at (byte_counted half) _ (list_end s lists) (list_at_lem s lists) (omega arith) attributes in
    let is = same_got (then_at (byte_counted half) _ (list_end s (list_end s lists)) (list_at_lem s (list_end s lists)) (omega arith) families) in
    record { is = sym is.0; inside = entry_starts Requests s p r q e }
