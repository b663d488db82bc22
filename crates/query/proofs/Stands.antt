-- That bytes stand in a job from one position to another, and how such parts are joined and split.
use Prim.Native.Nat.{ℕ, ◌+◌, ◌≤◌}
use mathlib.Core.Path.{◌≡◌, refl, sym, ap, ◌∙◌}
use mathlib.Core.List.{List, [], ◌∷◌, ◌++◌, append_assoc}
use native.Mathlib.Omega.{arith}
use native.Mathlib.Numerals.{add-one}
use lib.ListN.{length, get_or, drop, length-append, length-drop}
use lib.Seq.{drop-cons, drop-drop, drop-append_seam}

-- x stands in s from p to q
pub record Stands (s : List ℕ) (p : ℕ) (x : List ℕ) (q : ℕ) : Type 0 where
  pub next : q ≡ p + length x
  pub rest : drop p s ≡ x ++ drop q s

pub join : {s : List ℕ} {p : ℕ} {x : List ℕ} {q : ℕ} {y : List ℕ} {t : ℕ} → Stands s p x q → Stands s q y t → Stands s p (x ++ y) t
join {s} {p} {x} {q} {y} {t} a b =
    record { next = omega (arith, length-append x y, a.next, b.next); rest = (a.rest ∙ ap (λ (z : List ℕ). x ++ z) b.rest) ∙ sym (append_assoc x y (drop t s)) }

pub record Split (s : List ℕ) (p : ℕ) (x y : List ℕ) (t : ℕ) : Type 0 where
  pub first : Stands s p x (p + length x)
  pub second : Stands s (p + length x) y t

pub split : {s : List ℕ} {p : ℕ} (x y : List ℕ) {t : ℕ} → Stands s p (x ++ y) t → Split s p x y t
split {s} {p} x y {t} a =
    let all : drop p s ≡ x ++ (y ++ drop t s) = a.rest ∙ append_assoc x y (drop t s) in
    let after : drop (p + length x) s ≡ y ++ drop t s =
    sym (drop-drop (length x) p s) ∙ (ap (λ (z : List ℕ). drop (length x) z) all ∙ drop-append_seam x (y ++ drop t s)) in
    record {
      first = record { next = refl; rest = all ∙ ap (λ (z : List ℕ). x ++ z) (sym after) };
      second = record { next = omega (arith, length-append x y, a.next); rest = after };
    }

pub none : (s : List ℕ) (p : ℕ) → Stands s p [] p
none s p = record { next = omega arith; rest = refl }

-- what stands in the job lies in it
pub inside : {s : List ℕ} {p : ℕ} (a : ℕ) (x : List ℕ) {q : ℕ} → Stands s p (a ∷ x) q → p + length (a ∷ x) ≤ length s
inside {s} {p} a x {q} h =
    omega (arith, length-drop p s, ap length h.rest, length-append (a ∷ x) (drop q s))

-- one byte of the job
pub one : (s : List ℕ) (p : ℕ) → p + 1 ≤ length s → Stands s p (get_or s p 0 ∷ []) (p + 1)
one s p h = record { next = refl; rest = drop-cons s p 0 (omega arith) ∙ ap (λ (n : ℕ). get_or s p 0 ∷ drop n s) (sym (add-one p)) }
