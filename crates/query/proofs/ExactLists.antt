-- Lists of entries are read exactly.
use Prim.Native.Nat.{ℕ, zero, suc, ◌≤◌}
use mathlib.Core.Path.{◌≡◌, refl, ap, subst}
use mathlib.Core.List.{List, [], ◌∷◌}
use native.Mathlib.Omega.{arith}
use lib.ListN.{length}
use Rattle.query.specs.Reader.{Got, got, Reader, done, onward, ◌>>=◌, many}
use Rattle.query.specs.Fields.{byte, count, counted, byte_counted}
use Rattle.query.specs.Layout.{Bytes, bytes8, bytes16, each, after8, after16, Every, Fits8}
use Rattle.query.proofs.Ends.{then_got}
use Rattle.query.proofs.Stands.{Stands, join, split, none}
use Rattle.query.proofs.Exact.{Stood, Exact, exact_byte, exact_count}

-- one after another, where both are read
pub then_is : {A B : Type 0} (r : Reader A) (k : A → Reader B) (s : List ℕ) (p : ℕ) (a : A) (q : ℕ) {g : Got B}
    → r s p ≡ got a q → k a s q ≡ g → (r >>= k) s p ≡ g
unfolding ◌>>=◌ onward
then_is r k s p a q e f = rw e f

-- nothing left to read
pub done_got : {A : Type 0} (a b : A) (s : List ℕ) (p q : ℕ) → done a s p ≡ got b q → (a ≡ b) × (p ≡ q)
unfolding done
done_got a b s p q e = (cc, cc)

pub done_is : {A : Type 0} (a : A) (s : List ℕ) (p : ℕ) → done a s p ≡ got a p
unfolding done
done_is a s p = refl

-- the same of an equal value and an equal end
pub stood_as : {A : Type 0} (e : A → List ℕ) (W : A → Type 0) {s : List ℕ} {p : ℕ} {a b : A} {q t : ℕ}
    → a ≡ b → q ≡ t → Stood s p (e a) q (W a) → Stood s p (e b) t (W b)
stood_as e W {s} {p} {a} {b} {q} {t} x y h =
    subst (λ v. Stood s p (e v) t (W v)) x (subst (λ n. Stood s p (e a) n (W a)) y h)

module _ {A : Type 0} (r : Reader A) (e : A → List ℕ) (W : A → Type 0) (x : Exact r e W) where
  many_sound : (n : ℕ) (s : List ℕ) → Bytes s → (p : ℕ) (xs : List A) (q : ℕ) → many n r s p ≡ got xs q
      → Stood s p (each e xs) q ((length xs ≡ n) × Every W xs)
  unfolding many each Every
  many_sound zero s B p xs q h =
      let d = done_got [] xs s p q h in
      stood_as (each e) (λ ys. (length ys ≡ 0) × Every W ys) d.0 d.1 (record { stands = none s p; within = (refl, tt) })
  many_sound (suc n) s B p xs q h =
      let t = then_got r _ s p xs q h in
      let u = then_got (many n r) _ s t.1 xs q t.3 in
      let d = done_got (t.0 ∷ u.0) xs s u.1 q u.3 in
      let f = x.sound s B p t.0 t.1 t.2 in
      let g = many_sound n s B t.1 u.0 u.1 u.2 in
      stood_as (each e) (λ ys. (length ys ≡ suc n) × Every W ys) d.0 d.1
      (record { stands = join f.stands g.stands; within = (ap suc g.within.0, (f.within, g.within.1)) })

  many_complete : (xs : List A) (s : List ℕ) (p q : ℕ) → Every W xs → Stands s p (each e xs) q → many (length xs) r s p ≡ got xs q
  unfolding many each Every done
  many_complete [] s p q w h =
      let same : q ≡ p = omega (arith, h.next) in
      rw same
  many_complete (a ∷ xs) s p q w h =
      let d = split (e a) (each e xs) h in
      then_is r _ s p a _ (x.complete s p a _ w.0 d.first)
      (then_is (many (length xs) r) _ s _ xs q (many_complete xs s _ q w.1 d.second) refl)

  pub exact_counted : (limit : ℕ) → Exact (counted limit r) (after16 e) (λ xs. (length xs ≤ limit) × Every W xs)
  unfolding counted after16
  exact_counted limit = record {
    sound = λ s B p xs q h. let t = then_got (count limit) _ s p xs q h in
        let f = (exact_count limit).sound s B p t.0 t.1 t.2 in
        let g = many_sound t.0 s B t.1 xs q t.3 in
        let n : length xs ≡ t.0 = g.within.0 in
        record { stands = rw n (join f.stands g.stands); within = (rw n f.within, g.within.1) };
    complete = λ s p xs q w h. let d = split (bytes16 (length xs)) (each e xs) h in
        then_is (count limit) _ s p (length xs) _ ((exact_count limit).complete s p (length xs) _ w.0 d.first)
        (many_complete xs s _ q w.1 d.second);
  }

  pub exact_byte_counted : Exact (byte_counted r) (after8 e) (λ xs. Fits8 (length xs) × Every W xs)
  unfolding byte_counted after8
  exact_byte_counted = record {
    sound = λ s B p xs q h. let t = then_got byte _ s p xs q h in
        let f = exact_byte.sound s B p t.0 t.1 t.2 in
        let g = many_sound t.0 s B t.1 xs q t.3 in
        let n : length xs ≡ t.0 = g.within.0 in
        record { stands = rw n (join f.stands g.stands); within = (rw n f.within, g.within.1) };
    complete = λ s p xs q w h. let d = split (bytes8 (length xs)) (each e xs) h in
        then_is byte _ s p (length xs) _ (exact_byte.complete s p (length xs) _ w.0 d.first)
        (many_complete xs s _ q w.1 d.second);
  }
