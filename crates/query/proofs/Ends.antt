-- How a reader ends, field by field and entry by entry: what the code of each entry does in turn is what its reader does.
use Prim.Native.Nat.{ℕ, zero, suc, ◌+◌, ◌-◌, ◌≤◌, ◌<◌}
use mathlib.Core.Path.{◌≡◌, refl, sym, ap, ◌∙◌}
use mathlib.Core.Bool.{Bool, true, false, cond}
use mathlib.Core.List.{List, [], ◌∷◌}
use native.Mathlib.Omega.{arith}
use lib.ListN.{length}
use lib.Dec.{leb}
use borrow.Author.Tests.{le-leb, lt-leb, leb-true}
use Rattle.std.specs.Prelude.{Result, Ok, Err}
use Rattle.std.specs.Result.{IsErrAnd}
use Rattle.std.proofs.lemmas.Result.{err_from_is_err_and}
use Rattle.font.specs.declared.refusal.Refusal as Code
use Rattle.font.specs.declared.refusal.Refusal.TheVariants as Code'
use Rattle.font.specs.Refusals as Refusals
use Rattle.font.proofs.Refusals.{not_zero}
use Rattle.query.specs.declared.job.Refused.{Refused}
use Rattle.query.specs.Reader.{At, end_in}
use Rattle.query.specs.Reader.{Refusal, overlong, past_end, over_limit, not_held, bad_directory, no_charmap, many_axes, no_face, unknown, bad_number, bytes_left, no_font, damaged_table, number, Got, refused, got, Reader, done, onward, ◌>>=◌, field, tested, many, ended}
use Rattle.query.specs.Fields.{field_end}

-- no row of the table has the number 0
pub number_nonzero : (w : Refusal) → number w ≡ 0 → ⊥
unfolding number
number_nonzero overlong e = omega arith
number_nonzero past_end e = omega arith
number_nonzero over_limit e = omega arith
number_nonzero not_held e = omega arith
number_nonzero bad_directory e = omega arith
number_nonzero no_charmap e = omega arith
number_nonzero many_axes e = omega arith
number_nonzero no_face e = omega arith
number_nonzero unknown e = omega arith
number_nonzero bad_number e = omega arith
number_nonzero bytes_left e = omega arith
number_nonzero no_font e = omega arith
number_nonzero damaged_table e = omega arith

-- ---- fields

pub tested_ends : {A : Type 0} (why : Refusal) (ok : A → Bool) (n : ℕ) (v : List ℕ → ℕ → A) (s : List ℕ) (p : ℕ)
    → field_end s p n (ok (v s p)) (number why) ≡ ended (tested why ok (field n v) s p)
unfolding field_end ended tested field onward number
tested_ends why ok n v s p = go (leb (p + n) (length s)) (ok (v s p)) refl
  where
    go : (a b : Bool) → ok (v s p) ≡ b
        → cond a (cond b (record { refusal = 0; at = p + n }) (record { refusal = number why; at = p })) (record { refusal = 18; at = p })
        ≡ ended (onward (cond a (got (v s p) (p + n)) (refused past_end p)) (λ x q. cond (ok x) (got x q) (refused why p)))
    go true true e = rw e
    go true false e = rw e
    go false b e = refl

-- a field that nothing refuses but the end
pub field_fits : {A : Type 0} (n : ℕ) (v : List ℕ → ℕ → A) (s : List ℕ) (p q : ℕ) → q ≡ p + n → q ≤ length s → end_in (Ok q) ≡ ended (field n v s p)
unfolding field ended end_in
field_fits n v s p q e l = rw e (simp (le-leb (p + n) (length s) (omega arith)))

pub field_lacks : {A : Type 0} (n : ℕ) (v : List ℕ → ℕ → A) (s : List ℕ) (p : ℕ) → length s < p + n
    → end_in (Err (record { refusal = Code'.PastEnd; position = p })) ≡ ended (field n v s p)
unfolding field ended end_in number Refusals.number
field_lacks n v s p l = simp (lt-leb (p + n) (length s) l)

-- and one that is tested besides, from how it ends untested
pub lacks_field : {A : Type 0} (n : ℕ) (v : List ℕ → ℕ → A) (s : List ℕ) (p : ℕ) (ok : Bool) (w : ℕ) (result : Result ℕ Refused) (why : Refused)
    → IsErrAnd result (λ y. y ≡ why) → end_in (Err why) ≡ ended (field n v s p) → end_in result ≡ field_end s p n ok w
unfolding field ended end_in field_end number
lacks_field n v s p ok w result why is e = let h = err_from_is_err_and result is in rw (h.1, h.2) (go (leb (p + n) (length s)) e)
  where
    go : (b : Bool) → end_in (Err why) ≡ ended (cond b (got (v s p) (p + n)) (refused past_end p))
        → end_in (Err why) ≡ cond b (cond ok (record { refusal = 0; at = p + n }) (record { refusal = w; at = p })) (record { refusal = 18; at = p })
    go true e = absurd (not_zero why.refusal (ap (λ (x : At). x.refusal) e))
    go false e = e

pub has_field : {A : Type 0} (n : ℕ) (v : List ℕ → ℕ → A) (s : List ℕ) (p q : ℕ) (ok : Bool) (w : Code.Refusal) → end_in (Ok q) ≡ ended (field n v s p)
    → cond ok (end_in (Ok q)) (end_in (Err (record { refusal = w; position = p }))) ≡ field_end s p n ok (Refusals.number w)
unfolding field ended end_in field_end number
has_field n v s p q ok w e = go (leb (p + n) (length s)) ok e
  where
    go : (b c : Bool) → end_in (Ok q) ≡ ended (cond b (got (v s p) (p + n)) (refused past_end p))
        → cond c (end_in (Ok q)) (end_in (Err (record { refusal = w; position = p })))
        ≡ cond b (cond c (record { refusal = 0; at = p + n }) (record { refusal = Refusals.number w; at = p })) (record { refusal = 18; at = p })
    go true true e = e
    go true false e = refl
    go false c e = absurd (let h : ◌≡◌ {A = ℕ} 0 18 = ap (λ (x : At). x.refusal) e in omega arith)

-- what is known of a field that was read
pub record Read {A : Type 0} (n : ℕ) (v : List ℕ → ℕ → A) (ok : A → Bool) (s : List ℕ) (p : ℕ) (a : A) (q : ℕ) : Type 0 where
  pub value : a ≡ v s p
  pub next : q ≡ p + n
  pub inside : p + n ≤ length s
  pub passed : ok a ≡ true

pub field_read : {A : Type 0} (n : ℕ) (v : List ℕ → ℕ → A) (s : List ℕ) (p : ℕ) (a : A) (q : ℕ)
    → field n v s p ≡ got a q → Read n v (λ x. true) s p a q
unfolding field
field_read n v s p a q = go (leb (p + n) (length s)) refl
  where
    go : (b : Bool) → leb (p + n) (length s) ≡ b → cond b (got (v s p) (p + n)) (refused past_end p) ≡ got a q → Read n v (λ x. true) s p a q
    go true t e = record { value = cc; next = cc; inside = leb-true (p + n) (length s) t; passed = refl }
    go false t e = absurd (let z : ◌≡◌ {A = ℕ} 0 1 = cc in omega arith)

pub tested_read : {A : Type 0} (why : Refusal) (ok : A → Bool) (n : ℕ) (v : List ℕ → ℕ → A) (s : List ℕ) (p : ℕ) (a : A) (q : ℕ)
    → tested why ok (field n v) s p ≡ got a q → Read n v ok s p a q
unfolding tested field onward
tested_read why ok n v s p a q = go (leb (p + n) (length s)) (ok (v s p)) refl refl
  where
    go : (b c : Bool) → leb (p + n) (length s) ≡ b → ok (v s p) ≡ c
        → onward (cond b (got (v s p) (p + n)) (refused past_end p)) (λ x q. cond (ok x) (got x q) (refused why p)) ≡ got a q
        → Read n v ok s p a q
    go true true t u e = let h : got (v s p) (p + n) ≡ got a q = rw u at e in
        let same : a ≡ v s p = cc in
        record { value = same; next = cc; inside = leb-true (p + n) (length s) t; passed = rw same u }
    go true false t u e = absurd (let h : refused why p ≡ got a q = rw u at e in let z : ◌≡◌ {A = ℕ} 0 1 = cc in omega arith)
    go false c t u e = absurd (let z : ◌≡◌ {A = ℕ} 0 1 = cc in omega arith)

-- ---- one after another

-- the first refusal is the answer
pub stops : {A B : Type 0} (r : Reader A) (k : A → Reader B) (s : List ℕ) (p : ℕ) {a : At}
    → a ≡ ended (r s p) → (a.refusal ≡ 0 → ⊥) → a ≡ ended ((r >>= k) s p)
unfolding ◌>>=◌ onward ended
stops {A} {B} r k s p {a} = go (r s p)
  where
    go : (g : Got A) → a ≡ ended g → (a.refusal ≡ 0 → ⊥) → a ≡ ended (onward g (λ v q. k v s q))
    go (refused w x) e h = e
    go (got v x) e h = absurd (h (ap (λ (y : At). y.refusal) e))

-- what was read is handed on
pub goes : {A B : Type 0} (r : Reader A) (k : A → Reader B) (s : List ℕ) (p : ℕ) {a b : At}
    → a ≡ ended (r s p) → a.refusal ≡ 0
    → ((v : A) → r s p ≡ got v a.at → b ≡ ended (k v s a.at))
    → b ≡ ended ((r >>= k) s p)
unfolding ◌>>=◌ onward ended
goes {A} {B} r k s p {a} {b} = go (r s p)
  where
    go : (g : Got A) → a ≡ ended g → a.refusal ≡ 0 → ((v : A) → g ≡ got v a.at → b ≡ ended (k v s a.at))
        → b ≡ ended (onward g (λ v q. k v s q))
    go (refused w x) e h f = absurd (number_nonzero w (sym (ap (λ (y : At). y.refusal) e) ∙ h))
    go (got v x) e h f =
        let same : a.at ≡ x = ap (λ (y : At). y.at) e in
        rw same at (f v (rw same refl))

-- the same of a code's answer: the exit of its `?`
pub refuses : {A B : Type 0} (r : Reader A) (k : A → Reader B) (s : List ℕ) (p : ℕ) (result : Result ℕ Refused) (why : Refused)
    → IsErrAnd result (λ y. y ≡ why) → end_in (Err why) ≡ ended (r s p) → end_in result ≡ ended ((r >>= k) s p)
unfolding end_in
refuses r k s p result why is e =
    let h = err_from_is_err_and result is in
    rw (h.1, h.2) (stops r k s p e (not_zero why.refusal))

-- and what follows it
pub goes_on : {A B : Type 0} (r : Reader A) (k : A → Reader B) (s : List ℕ) (p : ℕ) {next : ℕ} {b : At}
    → end_in (Ok next) ≡ ended (r s p) → ((v : A) → r s p ≡ got v next → b ≡ ended (k v s next)) → b ≡ ended ((r >>= k) s p)
unfolding end_in
goes_on r k s p e f = goes r k s p e refl f

-- what is made of the values changes no end
pub ends : {A B : Type 0} (r : Reader A) (f : A → B) (s : List ℕ) (p : ℕ) {a : At}
    → a ≡ ended (r s p) → a ≡ ended ((r >>= (λ v. done (f v))) s p)
unfolding ◌>>=◌ onward ended done
ends {A} {B} r f s p {a} = go (r s p)
  where
    go : (g : Got A) → a ≡ ended g → a ≡ ended (onward g (λ v q. done (f v) s q))
    go (refused w x) e = e
    go (got v x) e = e

-- ---- entries of one kind

pub many_none : {A : Type 0} (r : Reader A) (s : List ℕ) (p : ℕ) → record { refusal = 0; at = p } ≡ ended (many 0 r s p)
unfolding many done ended
many_none r s p = refl

pub many_stops : {A : Type 0} (r : Reader A) (n : ℕ) (s : List ℕ) (p : ℕ) {a : At}
    → 0 < n → a ≡ ended (r s p) → (a.refusal ≡ 0 → ⊥) → a ≡ ended (many n r s p)
unfolding many
many_stops r zero s p l e h = absurd (omega arith)
many_stops r (suc n) s p l e h = stops r _ s p e h

pub many_goes : {A : Type 0} (r : Reader A) (n : ℕ) (s : List ℕ) (p : ℕ) {a : At}
    → 0 < n → a ≡ ended (r s p) → a.refusal ≡ 0 → ended (many (n - 1) r s a.at) ≡ ended (many n r s p)
unfolding many
many_goes r zero s p l e h = absurd (omega arith)
many_goes r (suc n) s p {a} l e h =
    let one : suc n - 1 ≡ n = omega arith in
    rw one (goes r _ s p e h (λ v t. ends (many n r) (λ rest. v ∷ rest) s a.at refl))

pub many_length : {A : Type 0} (r : Reader A) (n : ℕ) (s : List ℕ) (p : ℕ) (xs : List A) (q : ℕ) → many n r s p ≡ got xs q → length xs ≡ n
unfolding many done ◌>>=◌ onward
many_length r zero s p xs q e = let same : xs ≡ [] = cc in rw same
many_length {A} r (suc n) s p xs q e = first (many_length r n s) (r s p) e
  where
    second : (v : A) (g : Got (List A)) → ((ys : List A) (t : ℕ) → g ≡ got ys t → length ys ≡ n)
        → onward g (λ rest t. got (v ∷ rest) t) ≡ got xs q → length xs ≡ suc n
    second v (refused w t) back e = absurd (let z : ◌≡◌ {A = ℕ} 0 1 = cc in omega arith)
    second v (got ys t) back e = let same : xs ≡ v ∷ ys = cc in rw same (ap suc (back ys t refl))

    first : ((t : ℕ) (ys : List A) (u : ℕ) → many n r s t ≡ got ys u → length ys ≡ n)
        → (g : Got A) → onward g (λ v t. onward (many n r s t) (λ rest u. got (v ∷ rest) u)) ≡ got xs q → length xs ≡ suc n
    first back (refused w t) e = absurd (let z : ◌≡◌ {A = ℕ} 0 1 = cc in omega arith)
    first back (got v t) e = second v (many n r s t) (back t) e

pub many_over : {A : Type 0} (r : Reader A) (n : ℕ) (s : List ℕ) (p : ℕ) → n ≤ 0 → record { refusal = 0; at = p } ≡ ended (many n r s p)
many_over r zero s p l = many_none r s p
many_over r (suc n) s p l = absurd (omega arith)

-- ---- what was read, taken apart

pub then_got : {A B : Type 0} (r : Reader A) (k : A → Reader B) (s : List ℕ) (p : ℕ) (b : B) (t : ℕ)
    → (r >>= k) s p ≡ got b t → (a : A) × (q : ℕ) × (r s p ≡ got a q) × (k a s q ≡ got b t)
unfolding ◌>>=◌ onward
then_got {A} r k s p b t = go (r s p) refl
  where
    go : (g : Got A) → r s p ≡ g → onward g (λ a q. k a s q) ≡ got b t → (a : A) × (q : ℕ) × (r s p ≡ got a q) × (k a s q ≡ got b t)
    go (refused w x) h e = absurd (let z : ◌≡◌ {A = ℕ} 0 1 = cc in omega arith)
    go (got a q) h e = (a, q, h, e)

-- what was read where reading ended without a refusal
pub got_there : {A : Type 0} {g : Got A} {a : At} → a ≡ ended g → a.refusal ≡ 0 → (v : A) × (g ≡ got v a.at)
unfolding ended
got_there {A} {g} {a} = go g
  where
    go : (g : Got A) → a ≡ ended g → a.refusal ≡ 0 → (v : A) × (g ≡ got v a.at)
    go (refused w p) e z = absurd (number_nonzero w (sym (ap (λ (x : At). x.refusal) e) ∙ z))
    go (got v p) e z = (v, ap (got v) (sym (ap (λ (x : At). x.at) e)))

-- and nothing where it ended with one
pub not_got : {A : Type 0} {g : Got A} {a : At} {v : A} {q : ℕ} → a ≡ ended g → (a.refusal ≡ 0 → ⊥) → g ≡ got v q → ⊥
unfolding ended
not_got e h is = h (ap (λ (x : At). x.refusal) (e ∙ ap ended is))

-- a reader that can end in one way alone
abbrev pub ReadsAt : {A : Type 0} → Reader A → List ℕ → ℕ → A → ℕ → Type 0
ReadsAt {A} r s p v q = (a : A) (u : ℕ) → r s p ≡ got a u → (a ≡ v) × (u ≡ q)

-- what follows it
pub then_at : {A B : Type 0} (r : Reader A) (k : A → Reader B) {s : List ℕ} {p : ℕ} {v : A} {q : ℕ} {b : B} {t : ℕ} (next : ℕ)
    → ReadsAt r s p v q → q ≡ next → (r >>= k) s p ≡ got b t → k v s next ≡ got b t
then_at r k {s} {p} {v} {q} {b} {t} next reads same e =
    let h = then_got r k s p b t e in
    let is = reads h.0 h.1 h.2 in
    let place : h.1 ≡ next = is.1 ∙ same in
    rw (is.0, place) at h.3

pub then_read : {A B : Type 0} (r : Reader A) (k : A → Reader B) {n : ℕ} {v : List ℕ → ℕ → A} {ok : A → Bool} {s : List ℕ} {p : ℕ} {b : B} {t : ℕ} (next : ℕ)
    → ((a : A) (u : ℕ) → r s p ≡ got a u → Read n v ok s p a u) → p + n ≡ next → (r >>= k) s p ≡ got b t → k (v s p) s next ≡ got b t
then_read r k next reads same e = then_at r k next (λ a u h. let x = reads a u h in (x.value, x.next)) same e

pub same_got : {A : Type 0} {a b : A} {p q : ℕ} → got a p ≡ got b q → (b ≡ a) × (q ≡ p)
same_got e = (cc, cc)
