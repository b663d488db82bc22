-- Readers that read exactly what a layout writes. Sound: what is read stands there as its layout, within the limits. Complete: what stands there
-- as the layout of something within the limits is read as that.
use Prim.Native.Nat.{ℕ, ◌+◌, ◌*◌, ◌/◌, ◌%◌, ◌^◌, ◌≤◌, ◌<◌}
use mathlib.Core.Path.{◌≡◌, refl, sym, ap, ◌∙◌}
use mathlib.Core.Bool.{Bool, true, false, not}
use mathlib.Core.List.{List, [], ◌∷◌}
use native.Mathlib.Omega.{arith}
use lib.ListN.{length, get_or}
use lib.Seq.{get_or-drop}
use lib.Dec.{T, leb, ltb}
use lib.Ieee.{Float, nan, inf, fin, binary32, is_nan, of_bits, to_bits, fits}
use lib.Ieee.Scale.{finite}
use lib.Ieee.Bits.{of_bits-to_bits, of_bits-fits, to_bits-of_bits}
use borrow.Author.Tests.{le-leb, lt-ltb, eq-eqb, leb-true, ltb-true, eqb-true}
use Rattle.font.specs.Single.{accepted_ratio}
use Rattle.font.specs.Tables.{u16_at, u32_at}
use Rattle.font.proofs.Fields.{in16, out16, in32, out32}
use Rattle.query.specs.Reader.{Refusal, over_limit, not_held, no_face, unknown, bad_number, no_font, got, Reader, onward, field, tested}
use Rattle.query.specs.Fields.{byte, half, word, single, ratio, value, count, held_byte, face_number, number_below, mask, kind, spare_byte, spare_word}
use Rattle.query.specs.Layout.{Bytes, bytes8, bytes16, bytes32, bytes_of, Fits8, Fits16, Fits32, IsNumber, IsRatio, IsValue}
use Rattle.query.proofs.Ends.{Read, tested_read}
use Rattle.query.proofs.Leaves.{byte_at, single_at, byte_read, half_read, word_read, ratio_read, value_read}
use Rattle.font.proofs.FiniteBits.{ratio_finite}
use Rattle.query.proofs.Stands.{Stands, join, split, inside, one}

-- what was read stands there, within the limits
pub record Stood (s : List ℕ) (p : ℕ) (x : List ℕ) (q : ℕ) (W : Type 0) : Type 0 where
  pub stands : Stands s p x q
  pub within : W

pub record Exact {A : Type 0} (r : Reader A) (e : A → List ℕ) (W : A → Type 0) : Type 0 where
  pub sound : (s : List ℕ) → Bytes s → (p : ℕ) (a : A) (q : ℕ) → r s p ≡ got a q → Stood s p (e a) q (W a)
  pub complete : (s : List ℕ) (p : ℕ) (a : A) (q : ℕ) → W a → Stands s p (e a) q → r s p ≡ got a q

-- ---- fields

pub field_is : {A : Type 0} (n : ℕ) (v : List ℕ → ℕ → A) (s : List ℕ) (p : ℕ) (a : A) (q : ℕ)
    → p + n ≤ length s → v s p ≡ a → q ≡ p + n → field n v s p ≡ got a q
unfolding field
field_is n v s p a q h e t = simp (le-leb (p + n) (length s) h, e, t)

pub tested_is : {A : Type 0} (why : Refusal) (ok : A → Bool) (n : ℕ) (v : List ℕ → ℕ → A) (s : List ℕ) (p : ℕ) (a : A) (q : ℕ)
    → p + n ≤ length s → v s p ≡ a → q ≡ p + n → ok a ≡ true → tested why ok (field n v) s p ≡ got a q
unfolding tested onward
tested_is why ok n v s p a q h e t k = rw (field_is n v s p a q h e t) (rw k refl)

-- the first byte of what stands there
first_at : {s : List ℕ} {p : ℕ} (a : ℕ) (x : List ℕ) {q : ℕ} → Stands s p (a ∷ x) q → get_or s p 0 ≡ a
first_at {s} {p} a x {q} h =
    let zero_more : p ≡ p + 0 = omega arith in
    ap (λ (n : ℕ). get_or s n 0) zero_more ∙ (sym (get_or-drop p s 0 0) ∙ ap (λ (z : List ℕ). get_or z 0 0) h.rest)

second_at : {s : List ℕ} {p : ℕ} (a b : ℕ) (x : List ℕ) {q : ℕ} → Stands s p (a ∷ b ∷ x) q → get_or s (p + 1) 0 ≡ b
second_at {s} {p} a b x {q} h = sym (get_or-drop p s 1 0) ∙ ap (λ (z : List ℕ). get_or z 1 0) h.rest

-- a 16-bit field is at most 65535
u16_small : (s : List ℕ) → Bytes s → (p : ℕ) → u16_at s p < 65536
u16_small s B p = go (leb (p + 2) (length s)) refl
  where
    go : (b : Bool) → leb (p + 2) (length s) ≡ b → u16_at s p < 65536
    go true e = omega (arith, B p, B (p + 1), in16 s p (leb-true (p + 2) (length s) e))
    go false e = omega (arith, out16 s p (borrow.Author.Tests.leb-false (p + 2) (length s) e))

u32_small : (s : List ℕ) → Bytes s → (p : ℕ) → u32_at s p < 2 ^ 32
u32_small s B p = go (leb (p + 4) (length s)) refl
  where
    go : (b : Bool) → leb (p + 4) (length s) ≡ b → u32_at s p < 2 ^ 32
    go true e = omega (arith, u16_small s B p, u16_small s B (p + 2), in32 s p (leb-true (p + 4) (length s) e))
    go false e = omega (arith, out32 s p (borrow.Author.Tests.leb-false (p + 4) (length s) e))

pub stands8 : (s : List ℕ) (p : ℕ) → p + 1 ≤ length s → Stands s p (bytes8 (get_or s p 0)) (p + 1)
unfolding bytes8
stands8 s p h = one s p h

pub stands16 : (s : List ℕ) → Bytes s → (p : ℕ) → p + 2 ≤ length s → Stands s p (bytes16 (u16_at s p)) (p + 2)
unfolding bytes16
stands16 s B p h =
    let a = get_or s p 0 in
    let b = get_or s (p + 1) 0 in
    let n : a * 256 + b ≡ u16_at s p = in16 s p h in
    let high : u16_at s p / 256 ≡ a = omega (arith, B (p + 1)) in
    let low : u16_at s p % 256 ≡ b = omega (arith, B (p + 1)) in
    let two : p + 1 + 1 ≡ p + 2 = omega arith in
    rw (high, low) (rw two at (join (one s p (omega arith)) (one s (p + 1) (omega arith))))

pub stands32 : (s : List ℕ) → Bytes s → (p : ℕ) → p + 4 ≤ length s → Stands s p (bytes32 (u32_at s p)) (p + 4)
unfolding bytes32
stands32 s B p h =
    let n : u16_at s p * 65536 + u16_at s (p + 2) ≡ u32_at s p = in32 s p h in
    let high : u32_at s p / 65536 ≡ u16_at s p = omega (arith, u16_small s B (p + 2)) in
    let low : u32_at s p % 65536 ≡ u16_at s (p + 2) = omega (arith, u16_small s B (p + 2)) in
    let two : p + 2 + 2 ≡ p + 4 = omega arith in
    rw (high, low) (rw two at (join (stands16 s B p (omega arith)) (stands16 s B (p + 2) (omega arith))))

-- what a 16-bit or a 32-bit number is read as
pub record There (s : List ℕ) (p n x k q : ℕ) : Type 0 where
  pub in_job : p + k ≤ length s
  pub is : x ≡ n
  pub ends : q ≡ p + k

pub there8 : {s : List ℕ} {p : ℕ} (n : ℕ) {q : ℕ} → Stands s p (bytes8 n) q → There s p n (get_or s p 0) 1 q
unfolding bytes8
there8 n h = record { in_job = inside n [] h; is = first_at n [] h; ends = h.next }

pub there16 : {s : List ℕ} {p : ℕ} (n : ℕ) {q : ℕ} → Stands s p (bytes16 n) q → There s p n (u16_at s p) 2 q
unfolding bytes16
there16 {s} {p} n h =
    let l : p + 2 ≤ length s = inside (n / 256) (n % 256 ∷ []) h in
    record {
      in_job = l;
      is = sym (in16 s p l) ∙ (rw (first_at (n / 256) (n % 256 ∷ []) h, second_at (n / 256) (n % 256) [] h) (omega arith));
      ends = h.next;
    }

pub there32 : {s : List ℕ} {p : ℕ} (n : ℕ) {q : ℕ} → Stands s p (bytes32 n) q → There s p n (u32_at s p) 4 q
unfolding bytes32
there32 {s} {p} n {q} h =
    let d = split (bytes16 (n / 65536)) (bytes16 (n % 65536)) h in
    let a = there16 (n / 65536) d.first in
    let two : p + length (bytes16 (n / 65536)) ≡ p + 2 = a.ends in
    let second : Stands s (p + 2) (bytes16 (n % 65536)) q = rw two at d.second in
    let b = there16 (n % 65536) second in
    let l : p + 4 ≤ length s = omega (arith, b.in_job) in
    record {
      in_job = l;
      is = sym (in32 s p l) ∙ (rw (a.is, b.is) (omega arith));
      ends = omega (arith, b.ends);
    }

pub exact_byte : Exact byte bytes8 Fits8
unfolding byte
exact_byte = record {
  sound = λ s B p a q e. let r = byte_read s p a q e in
      record { stands = rw (r.value, r.next) (stands8 s p r.inside); within = rw r.value (B p) };
  complete = λ s p a q v h. let t = there8 a h in field_is 1 byte_at s p a q t.in_job t.is t.ends;
}

pub exact_half : Exact half bytes16 Fits16
unfolding half
exact_half = record {
  sound = λ s B p a q e. let r = half_read s p a q e in
      record { stands = rw (r.value, r.next) (stands16 s B p r.inside); within = rw r.value (u16_small s B p) };
  complete = λ s p a q v h. let t = there16 a h in field_is 2 u16_at s p a q t.in_job t.is t.ends;
}

pub exact_word : Exact word bytes32 Fits32
unfolding word
exact_word = record {
  sound = λ s B p a q e. let r = word_read s p a q e in
      record { stands = rw (r.value, r.next) (stands32 s B p r.inside); within = rw r.value (u32_small s B p) };
  complete = λ s p a q v h. let t = there32 a h in field_is 4 u32_at s p a q t.in_job t.is t.ends;
}

-- ---- numbers, counts and spare fields

not_nan : (x : Float) → finite x ≡ true → T (not (is_nan x))
unfolding is_nan
not_nan nan e = absurd (let z : ◌≡◌ {A = ℕ} 0 1 = cc in omega arith)
not_nan (inf s) e = tt
not_nan (fin s m k) e = tt

pub ratio_is_finite : (x : Float) → accepted_ratio x ≡ true → finite x ≡ true
ratio_is_finite x h = go (finite x) refl
  where
    go : (b : Bool) → finite x ≡ b → b ≡ true
    go true e = refl
    go false e = ratio_finite x e ∙ h

-- the bits of a finite single are its field
bits_back : (w : ℕ) (x : Float) → w < 2 ^ 32 → x ≡ of_bits binary32 w → finite x ≡ true → to_bits binary32 x ≡ w
bits_back w x l e f =
    rw e (to_bits-of_bits binary32 w l (not_nan (of_bits binary32 w) (rw e at f)))

single_sound : (ok : Float → Bool) → ((x : Float) → ok x ≡ true → finite x ≡ true) → (s : List ℕ) → Bytes s → (p : ℕ) (a : Float) (q : ℕ)
    → Read 4 single_at ok s p a q → Stood s p (bytes_of a) q (IsNumber ok a)
unfolding bytes_of
single_sound ok f s B p a q r = record {
  stands = rw (bits_back (u32_at s p) a (u32_small s B p) r.value (f a r.passed), r.next) (stands32 s B p r.inside);
  within = record { single = rw r.value (of_bits-fits binary32 (u32_at s p)); accepted = r.passed };
}

single_there : {s : List ℕ} {p : ℕ} (x : Float) {q : ℕ} → T (fits binary32 x) → There s p (to_bits binary32 x) (u32_at s p) 4 q → single_at s p ≡ x
single_there x f t = ap (λ (n : ℕ). of_bits binary32 n) t.is ∙ of_bits-to_bits binary32 x f

pub exact_ratio : Exact ratio bytes_of IsRatio
unfolding ratio single bytes_of
exact_ratio = record {
  sound = λ s B p a q e. single_sound accepted_ratio ratio_is_finite s B p a q (ratio_read s p a q e);
  complete = λ s p a q v h. let t = there32 (to_bits binary32 a) h in
      tested_is bad_number accepted_ratio 4 single_at s p a q t.in_job (single_there a v.single t) t.ends v.accepted;
}

pub exact_value : Exact value bytes_of IsValue
unfolding value single bytes_of
exact_value = record {
  sound = λ s B p a q e. single_sound finite (λ x h. h) s B p a q (value_read s p a q e);
  complete = λ s p a q v h. let t = there32 (to_bits binary32 a) h in
      tested_is bad_number finite 4 single_at s p a q t.in_job (single_there a v.single t) t.ends v.accepted;
}

-- a number of k bytes, as it is read and as it stands
record Laid (k : ℕ) (v : List ℕ → ℕ → ℕ) (bytes : ℕ → List ℕ) : Type 0 where
  stands_as : (s : List ℕ) → Bytes s → (p : ℕ) → p + k ≤ length s → Stands s p (bytes (v s p)) (p + k)
  there_as : (s : List ℕ) (p n q : ℕ) → Stands s p (bytes n) q → There s p n (v s p) k q

laid8 : Laid 1 byte_at bytes8
laid8 = record { stands_as = λ s B p l. stands8 s p l; there_as = λ s p n q h. there8 n h }

laid16 : Laid 2 u16_at bytes16
laid16 = record { stands_as = stands16; there_as = λ s p n q h. there16 n h }

laid32 : Laid 4 u32_at bytes32
laid32 = record { stands_as = stands32; there_as = λ s p n q h. there32 n h }

-- a number that passes its test exactly when it is within the limits
exact_tested : {k : ℕ} {v : List ℕ → ℕ → ℕ} {bytes : ℕ → List ℕ} → Laid k v bytes → (why : Refusal) (ok : ℕ → Bool) (W : ℕ → Type 0)
    → ((s : List ℕ) → Bytes s → (p : ℕ) → ok (v s p) ≡ true → W (v s p)) → ((n : ℕ) → W n → ok n ≡ true) → Exact (tested why ok (field k v)) bytes W
exact_tested {k} {v} laid why ok W limits passes = record {
  sound = λ s B p a q e. let r = tested_read why ok k v s p a q e in
      record {
        stands = rw (r.value, r.next) (laid.stands_as s B p r.inside);
        within = rw r.value (limits s B p (rw r.value at r.passed));
      };
  complete = λ s p a q w h. let t = laid.there_as s p a q h in tested_is why ok k v s p a q t.in_job t.is t.ends (passes a w);
}

pub exact_count : (limit : ℕ) → Exact (count limit) bytes16 (λ n. n ≤ limit)
unfolding count half
exact_count limit = exact_tested laid16 over_limit _ _ (λ s B p e. leb-true _ limit e) (λ n w. le-leb n limit w)

pub exact_held : Exact held_byte bytes8 (λ n. n ≤ 1)
unfolding held_byte byte
exact_held = exact_tested laid8 not_held _ _ (λ s B p e. leb-true _ 1 e) (λ n w. le-leb n 1 w)

-- a 16-bit number below another
exact_below : (why : Refusal) (n : ℕ) → Exact (tested why (λ i. ltb i n) half) bytes16 (λ i. (i < n) × Fits16 i)
unfolding half
exact_below why n = exact_tested laid16 why _ _ (λ s B p e. (ltb-true _ n e, u16_small s B p)) (λ i w. lt-ltb i n w.0)

pub exact_face_number : (n : ℕ) → Exact (face_number n) bytes16 (λ i. (i < n) × Fits16 i)
unfolding face_number
exact_face_number n = exact_below no_face n

pub exact_number_below : (n : ℕ) → Exact (number_below n) bytes16 (λ i. (i < n) × Fits16 i)
unfolding number_below
exact_number_below n = exact_below no_font n

pub exact_mask : Exact mask bytes8 (λ n. n ≤ 7)
unfolding mask byte
exact_mask = exact_tested laid8 unknown _ _ (λ s B p e. leb-true _ 7 e) (λ n w. le-leb n 7 w)

pub exact_kind : Exact kind bytes8 (λ n. n ≤ 3)
unfolding kind byte
exact_kind = exact_tested laid8 unknown _ _ (λ s B p e. leb-true _ 3 e) (λ n w. le-leb n 3 w)

pub exact_spare_byte : Exact spare_byte bytes8 (λ n. n ≡ 0)
unfolding spare_byte byte
exact_spare_byte = exact_tested laid8 unknown _ _ (λ s B p e. eqb-true _ 0 e) (λ n w. eq-eqb n 0 w)

pub exact_spare_word : Exact spare_word bytes32 (λ n. n ≡ 0)
unfolding spare_word word
exact_spare_word = exact_tested laid32 unknown _ _ (λ s B p e. eqb-true _ 0 e) (λ n w. eq-eqb n 0 w)
