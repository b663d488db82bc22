-- What every reader of a job keeps to, so that "first met, reading left to right" holds: it goes on and stays in the job; bytes after those that it passed
-- over change nothing; and cut off before a field that it refuses, the job lacks just that field.
use Prim.Native.Nat.{ℕ, zero, suc, ◌+◌, ◌≤◌, ◌<◌}
use mathlib.Core.Path.{◌≡◌, refl, sym, ap, ◌∙◌}
use mathlib.Core.Bool.{Bool, true, false, cond}
use mathlib.Core.List.{List, [], ◌∷◌, ◌++◌}
use mathlib.Core.Logic.{◌⊎◌, inl, inr, ⊎_elim}
use native.Mathlib.Omega.{arith}
use lib.ListN.{length, get_or, length-append, get_or-append}
use lib.Dec.{leb, eqb}
use lib.Ieee.{binary32, of_bits}
use borrow.Author.Tests.{le-leb, lt-leb, leb-true}
use Rattle.font.specs.Tables.{u16_at, u32_at}
use Rattle.font.proofs.Fields.{in16, in32}
use Rattle.query.specs.Reader.{Refusal, past_end, no_face, unknown, bad_number, number, Got, refused, got, Reader, done, onward, ◌>>=◌, field, tested, many}
use Rattle.query.specs.Fields.{byte, half, word, single, ratio, value, face_number, spare_word}

-- the position of the refusal, or the next one
unfoldable pub place : {A : Type 0} → Got A → ℕ
place (refused w p) = p
place (got a p) = p

-- ---- what a reader says of the bytes that it passed over

-- what was read ends no earlier than it began
unfoldable pub Goes : {A : Type 0} → ℕ → Got A → Type 0
Goes p (got a q) = p ≤ q
Goes p (refused w q) = Unit {0}

-- a longer job has what was read in a shorter one, and its refusal, unless that is 18
unfoldable pub Kept : {A : Type 0} → Got A → Got A → Type 0
Kept (got a q) y = y ≡ got a q
Kept (refused w q) y = (w ≡ past_end) ⊎ (y ≡ refused w q)

-- a shorter job, of n bytes, has what was read of them in a longer one
unfoldable pub Back : {A : Type 0} → ℕ → Got A → Got A → Type 0
Back n x (got a q) = q ≤ n → x ≡ got a q
Back n x (refused w q) = Unit {0}

pub record Passes {A : Type 0} (r : Reader A) : Type 0 where
  pub goes : (s : List ℕ) (p : ℕ) → Goes p (r s p)
  pub kept : (s u : List ℕ) (p : ℕ) → Kept (r s p) (r (s ++ u) p)
  pub back : (s u : List ℕ) (p : ℕ) → Back (length s) (r s p) (r (s ++ u) p)

pub passes_done : {A : Type 0} (a : A) → Passes (done a)
unfolding done Goes Kept Back
passes_done a = record { goes = λ s p. omega arith; kept = λ s u p. refl; back = λ s u p l. refl }

pub passes_then : {A B : Type 0} {r : Reader A} {k : A → Reader B} → Passes r → ((a : A) → Passes (k a)) → Passes (r >>= k)
unfolding ◌>>=◌ onward Goes Kept Back
passes_then {A} {B} {r} {k} f g =
    record {
      goes = λ s p. on s p (r s p) (f.goes s p);
      kept = λ s u p. keep s u (r s p) (r (s ++ u) p) (f.kept s u p);
      back = λ s u p. again s u (r s p) (r (s ++ u) p) (f.back s u p);
    }
  where
    further : (p q : ℕ) → p ≤ q → (y : Got B) → Goes q y → Goes p y
    further p q l (got b t) m = omega arith
    further p q l (refused w t) m = tt

    on : (s : List ℕ) (p : ℕ) (x : Got A) → Goes p x → Goes p (onward x (λ a q. k a s q))
    on s p (refused w q) l = tt
    on s p (got a q) l = further p q l (k a s q) ((g a).goes s q)

    keep : (s u : List ℕ) (x y : Got A) → Kept x y → Kept (onward x (λ a q. k a s q)) (onward y (λ a q. k a (s ++ u) q))
    keep s u (refused w q) y e = ⊎_elim (λ h. inl h) (λ h. inr (rw h refl)) e
    keep s u (got a q) y e = rw e ((g a).kept s u q)

    last : (s u : List ℕ) (x : Got A) (a : A) (q : ℕ) → (q ≤ length s → x ≡ got a q) → (y : Got B) → Goes q y → Back (length s) (k a s q) y
        → Back (length s) (onward x (λ a q. k a s q)) y
    last s u x a q c (refused w t) l d = tt
    last s u x a q c (got b t) l d = λ m. rw (c (omega arith)) (d m)

    again : (s u : List ℕ) (x y : Got A) → Back (length s) x y → Back (length s) (onward x (λ a q. k a s q)) (onward y (λ a q. k a (s ++ u) q))
    again s u x (refused w q) c = tt
    again s u x (got a q) c = last s u x a q c (k a (s ++ u) q) ((g a).goes (s ++ u) q) ((g a).back s u q)

passes_many : {A : Type 0} (n : ℕ) {r : Reader A} → Passes r → Passes (many n r)
unfolding many
passes_many zero f = passes_done []
passes_many (suc n) f = passes_then f (λ a. passes_then (passes_many n f) (λ rest. passes_done (a ∷ rest)))

passes_field : {A : Type 0} (n : ℕ) (v : List ℕ → ℕ → A) → ((s u : List ℕ) (p : ℕ) → p + n ≤ length s → v (s ++ u) p ≡ v s p) → Passes (field n v)
unfolding field Goes Kept Back
passes_field {A} n v f =
    record {
      goes = λ s p. on p (v s p) (leb (p + n) (length s));
      kept = λ s u p. keep s u p (leb (p + n) (length s)) refl;
      back = λ s u p. again s u p (leb (p + n) (length (s ++ u)));
    }
  where
    on : (p : ℕ) (a : A) (b : Bool) → Goes p (cond b (got a (p + n)) (refused past_end p))
    on p a true = omega arith
    on p a false = tt

    keep : (s u : List ℕ) (p : ℕ) (b : Bool) → leb (p + n) (length s) ≡ b → Kept (cond b (got (v s p) (p + n)) (refused past_end p)) (field n v (s ++ u) p)
    keep s u p true e =
        let h : p + n ≤ length s = leb-true (p + n) (length s) e in
        simp (le-leb (p + n) (length (s ++ u)) (omega (arith, length-append s u)), f s u p h)
    keep s u p false e = inl refl

    again : (s u : List ℕ) (p : ℕ) (b : Bool) → Back (length s) (field n v s p) (cond b (got (v (s ++ u) p) (p + n)) (refused past_end p))
    again s u p true = λ l. simp (le-leb (p + n) (length s) l, f s u p l)
    again s u p false = tt

pub passes_tested : {A : Type 0} (why : Refusal) (ok : A → Bool) {r : Reader A} → Passes r → Passes (tested why ok r)
unfolding tested onward Goes Kept Back
passes_tested {A} why ok {r} f =
    record {
      goes = λ s p. on p (r s p) (f.goes s p);
      kept = λ s u p. keep p (r s p) (r (s ++ u) p) (f.kept s u p);
      back = λ s u p. again s p (r s p) (r (s ++ u) p) (f.back s u p);
    }
  where
    test : ℕ → A → ℕ → Got A
    test p a q = cond (ok a) (got a q) (refused why p)

    held : (p q : ℕ) (a : A) (b : Bool) → p ≤ q → Goes p (cond b (got a q) (refused why p))
    held p q a true l = l
    held p q a false l = tt

    on : (p : ℕ) (x : Got A) → Goes p x → Goes p (onward x (test p))
    on p (refused w q) l = tt
    on p (got a q) l = held p q a (ok a) l

    same : (p q : ℕ) (a : A) (b : Bool) → Kept (cond b (got a q) (refused why p)) (cond b (got a q) (refused why p))
    same p q a true = refl
    same p q a false = inr refl

    keep : (p : ℕ) (x y : Got A) → Kept x y → Kept (onward x (test p)) (onward y (test p))
    keep p (refused w q) y e = ⊎_elim (λ h. inl h) (λ h. inr (rw h refl)) e
    keep p (got a q) y e = rw e (same p q a (ok a))

    back_to : (s : List ℕ) (p : ℕ) (x : Got A) (a : A) (q : ℕ) → (q ≤ length s → x ≡ got a q) → (b : Bool) → ok a ≡ b
        → Back (length s) (onward x (test p)) (cond b (got a q) (refused why p))
    back_to s p x a q c true e = λ l. rw (c l, e) refl
    back_to s p x a q c false e = tt

    again : (s : List ℕ) (p : ℕ) (x y : Got A) → Back (length s) x y → Back (length s) (onward x (test p)) (onward y (test p))
    again s p x (refused w q) c = tt
    again s p x (got a q) c = back_to s p x a q c (ok a) refl

-- ---- what a reader says of the field that it refuses

-- Of n bytes of a job that is refused at q, from p on: 27 is no row of a field; and where they end at q, all that they lack is the field there. But for places that are
-- said to be early: a font is refused at its length field after its number was read.
unfoldable pub Lacked : {A : Type 0} → (ℕ → Type 0) → ℕ → ℕ → Got A → Got A → Type 0
Lacked early p n x (got a q) = Unit {0}
Lacked early p n x (refused w q) = (eqb (number w) 27 ≡ false) × (early q ⊎ ((p ≤ q) × (q ≡ n → x ≡ refused past_end n)))

pub record Lacks {A : Type 0} (early : ℕ → Type 0) (r : Reader A) : Type 0 where
  pub lacks : (s u : List ℕ) (p : ℕ) → Lacked early p (length s) (r s p) (r (s ++ u) p)

lacks_done : {A : Type 0} {early : ℕ → Type 0} (a : A) → Lacks early (done a)
unfolding done Lacked
lacks_done a = record { lacks = λ s u p. tt }

lacks_then : {A B : Type 0} {early : ℕ → Type 0} {r : Reader A} {k : A → Reader B} → Passes r → Lacks early r → ((a : A) → Lacks early (k a)) → Lacks early (r >>= k)
unfolding ◌>>=◌ onward Goes Back Lacked
lacks_then {A} {B} {early} {r} {k} h f g =
    record { lacks = λ s u p. go s u p (r s p) (r (s ++ u) p) (h.goes (s ++ u) p) (h.back s u p) (f.lacks s u p) }
  where
    last : (s : List ℕ) (p : ℕ) (x : Got A) (a : A) (q : ℕ) → p ≤ q → (q ≤ length s → x ≡ got a q) → (y : Got B) → Lacked early q (length s) (k a s q) y
        → Lacked early p (length s) (onward x (λ a q. k a s q)) y
    last s p x a q l c (got b t) d = tt
    last s p x a q l c (refused w t) d =
        (d.0, ⊎_elim (λ e. inl e) (λ m. inr (omega (arith, m.0), λ e. rw (c (omega (arith, m.0, e))) (m.1 e))) d.1)

    go : (s u : List ℕ) (p : ℕ) (x y : Got A) → Goes p y → Back (length s) x y → Lacked early p (length s) x y
        → Lacked early p (length s) (onward x (λ a q. k a s q)) (onward y (λ a q. k a (s ++ u) q))
    go s u p x (refused w q) l c d = (d.0, ⊎_elim (λ e. inl e) (λ m. inr (m.0, λ e. rw (m.1 e) refl)) d.1)
    go s u p x (got a q) l c d = last s p x a q l c (k a (s ++ u) q) ((g a).lacks s u q)

-- ---- a reader stays in the job, if what is early does

pub record Stays {A : Type 0} (early : ℕ → Type 0) (r : Reader A) : Type 0 where
  pub stays : (s : List ℕ) (p : ℕ) → ((q : ℕ) → early q → q ≤ length s) → p ≤ length s → place (r s p) ≤ length s

pub stays_then : {A B : Type 0} {early : ℕ → Type 0} {r : Reader A} {k : A → Reader B} → Stays early r → ((a : A) → Stays early (k a)) → Stays early (r >>= k)
unfolding ◌>>=◌ onward place
stays_then {A} {B} {early} {r} {k} f g = record { stays = λ s p i h. go s i (r s p) (f.stays s p i h) }
  where
    go : (s : List ℕ) → ((q : ℕ) → early q → q ≤ length s) → (x : Got A) → place x ≤ length s → place (onward x (λ a q. k a s q)) ≤ length s
    go s i (refused w q) l = l
    go s i (got a q) l = (g a).stays s q i l

-- ---- the three together

pub record Reads {A : Type 0} (early : ℕ → Type 0) (r : Reader A) : Type 0 where
  pub passes : Passes r
  pub lacks : Lacks early r
  pub within : Stays early r

-- entries have no early places
abbrev pub never : ℕ → Type 0
never q = ⊥

pub reads_done : {A : Type 0} {early : ℕ → Type 0} (a : A) → Reads early (done a)
unfolding done place
reads_done a = record { passes = passes_done a; lacks = lacks_done a; within = record { stays = λ s p i h. h } }

pub reads_then : {A B : Type 0} {early : ℕ → Type 0} {r : Reader A} {k : A → Reader B} → Reads early r → ((a : A) → Reads early (k a)) → Reads early (r >>= k)
reads_then f g =
    record {
      passes = passes_then f.passes (λ a. (g a).passes);
      lacks = lacks_then f.passes f.lacks (λ a. (g a).lacks);
      within = stays_then f.within (λ a. (g a).within);
    }

pub reads_many : {A : Type 0} {early : ℕ → Type 0} (n : ℕ) {r : Reader A} → Reads early r → Reads early (many n r)
unfolding many
reads_many zero f = reads_done []
reads_many (suc n) f = reads_then f (λ a. reads_then (reads_many n f) (λ rest. reads_done (a ∷ rest)))

-- ---- one field: it is refused at its own position, and where no byte is left it is past the end

unfoldable pub OfField : {A : Type 0} → ℕ → ℕ → Got A → Type 0
OfField p n (got a q) = q ≤ n
OfField p n (refused w q) = (q ≡ p) × (eqb (number w) 27 ≡ false)

pub record Field {A : Type 0} (r : Reader A) : Type 0 where
  pub passes : Passes r
  pub ends : (s : List ℕ) (p : ℕ) → OfField p (length s) (r s p)
  pub starts : (s : List ℕ) → r s (length s) ≡ refused past_end (length s)

pub reads_field : {A : Type 0} {early : ℕ → Type 0} {r : Reader A} → Field r → Reads early r
unfolding Lacked OfField place
reads_field {A} {early} {r} f =
    record {
      passes = f.passes;
      lacks = record { lacks = λ s u p. lack s p (length (s ++ u)) (r (s ++ u) p) (f.ends (s ++ u) p) };
      within = record { stays = λ s p i l. inside s p l (r s p) (f.ends s p) };
    }
  where
    lack : (s : List ℕ) (p n : ℕ) (y : Got A) → OfField p n y → Lacked early p (length s) (r s p) y
    lack s p n (got a q) d = tt
    lack s p n (refused w q) d =
        (d.1, inr (omega (arith, d.0), λ e. let at : p ≡ length s = sym d.0 ∙ e in ap (r s) at ∙ f.starts s))

    inside : (s : List ℕ) (p : ℕ) → p ≤ length s → (x : Got A) → OfField p (length s) x → place x ≤ length s
    inside s p l (got a q) d = d
    inside s p l (refused w q) d = omega (arith, d.0)

pub bytes_field : {A : Type 0} (n : ℕ) (v : List ℕ → ℕ → A) → 0 < n → ((s u : List ℕ) (p : ℕ) → p + n ≤ length s → v (s ++ u) p ≡ v s p) → Field (field n v)
unfolding field OfField number
bytes_field n v some f =
    record {
      passes = passes_field n v f;
      ends = λ s p. go s p (leb (p + n) (length s)) refl;
      starts = λ s. simp (lt-leb (length s + n) (length s) (omega arith));
    }
  where
    go : (s : List ℕ) (p : ℕ) (b : Bool) → leb (p + n) (length s) ≡ b → OfField p (length s) (cond b (got (v s p) (p + n)) (refused past_end p))
    go s p true e = leb-true (p + n) (length s) e
    go s p false e = (refl, refl)

pub tested_field : {A : Type 0} (why : Refusal) (ok : A → Bool) → eqb (number why) 27 ≡ false → {r : Reader A} → Field r → Field (tested why ok r)
unfolding tested onward OfField
tested_field {A} why ok row {r} f =
    record {
      passes = passes_tested why ok f.passes;
      ends = λ s p. go s p (r s p) (f.ends s p);
      starts = λ s. rw (f.starts s) refl;
    }
  where
    last : (s : List ℕ) (p q : ℕ) (a : A) (b : Bool) → q ≤ length s → OfField p (length s) (cond b (got a q) (refused why p))
    last s p q a true l = l
    last s p q a false l = (refl, row)

    go : (s : List ℕ) (p : ℕ) (x : Got A) → OfField p (length s) x → OfField p (length s) (onward x (λ a q. cond (ok a) (got a q) (refused why p)))
    go s p (refused w q) d = d
    go s p (got a q) d = last s p q a (ok a) d

byte_kept : (s u : List ℕ) (p : ℕ) → p + 1 ≤ length s → get_or (s ++ u) p 0 ≡ get_or s p 0
byte_kept s u p h = get_or-append s u 0 p (omega arith)

half_kept : (s u : List ℕ) (p : ℕ) → p + 2 ≤ length s → u16_at (s ++ u) p ≡ u16_at s p
half_kept s u p h =
    (sym (in16 (s ++ u) p (omega (arith, length-append s u)))
    ∙ (rw (byte_kept s u p (omega arith), byte_kept s u (p + 1) (omega arith)) refl))
    ∙ in16 s p h

word_kept : (s u : List ℕ) (p : ℕ) → p + 4 ≤ length s → u32_at (s ++ u) p ≡ u32_at s p
word_kept s u p h =
    (sym (in32 (s ++ u) p (omega (arith, length-append s u)))
    ∙ (rw (half_kept s u p (omega arith), half_kept s u (p + 2) (omega arith)) refl))
    ∙ in32 s p h

pub byte_field : Field byte
unfolding byte
byte_field = bytes_field 1 (λ s p. get_or s p 0) (omega arith) byte_kept

pub half_field : Field half
unfolding half
half_field = bytes_field 2 u16_at (omega arith) half_kept

pub word_field : Field word
unfolding word
word_field = bytes_field 4 u32_at (omega arith) word_kept

single_field : Field single
unfolding single
single_field = bytes_field 4 (λ s p. of_bits binary32 (u32_at s p)) (omega arith) (λ s u p h. ap (of_bits binary32) (word_kept s u p h))

pub ratio_field : Field ratio
unfolding ratio number
ratio_field = tested_field bad_number _ refl single_field

pub value_field : Field value
unfolding value number
value_field = tested_field bad_number _ refl single_field

pub spare_word_field : Field spare_word
unfolding spare_word number
spare_word_field = tested_field unknown _ refl word_field

pub face_number_field : (n : ℕ) → Field (face_number n)
unfolding face_number number
face_number_field n = tested_field no_face _ refl half_field
