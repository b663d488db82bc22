-- A pattern that is no more than an infinity's, its sign aside, is no NaN's.
use Rattle.std.proofs.Common.{◌≡◌, ℕ, ◌/◌, ◌%◌, ◌^◌, ◌≤◌, Bool, true, false, not, ◌&&◌, T, eqb, refl, sym, subst, eq-eqb, arith}
use borrow.Author.Tests.{eqb-true}
use Rattle.std.specs.Float.Ieee.{binary32, nan_bits}
use Rattle.match_cases.proofs.single_of.Goals as goal

not_both : (p q : Bool) → (p ≡ true → q ≡ true) → T (not (p && not q))
not_both false q h = tt
not_both true true h = tt
not_both true false h = subst T (sym (h refl)) tt

no_nan : (b : ℕ) → b % 2 ^ 31 ≤ 0x7F80_0000 → T (not (nan_bits binary32 b))
unfolding nan_bits
no_nan b h =
    not_both (eqb (b % 2 ^ 31 / 2 ^ 23) 255) (eqb (b % 2 ^ 23) 0)
    (λ e. eq-eqb (b % 2 ^ 23) 0 (omega (arith, eqb-true (b % 2 ^ 31 / 2 ^ 23) 255 e)))

pub float_from_bits-result : goal.float_from_bits-result
float_from_bits-result c = no_nan _ c.if-bits-le2139095040.true
