-- Section 4's one way of ranking, for an arbitrary order number: groups take turns; inside a group the order number ascends ("up") or descends ("down");
-- among equals the earliest place is first where up, the latest where down. A thing in no group stands after those in one.
use Rattle.std.specs.Prelude.{ℕ, ◌≡◌, Bool, true, false, ◌&&◌, ◌||◌, leb, ltb, eqb}
use Rattle.matching.specs.declared.rank.Standing.{Standing}
use Rattle.matching.specs.declared.rank.Standing.TheVariants.{Up, Down, Nowhere}

-- x at place p comes before y at place q: the lower number, and of equal numbers the lower place
unfoldable pub lower : ℕ → ℕ → ℕ → ℕ → Bool
lower x p y q = ltb x y || (eqb x y && ltb p q)

-- `Up t x` is the order number x in the group of turn t, which ascends; `Down t x` in one that descends.
-- A group is a turn and a direction. No ranking has two of one turn (`OneGroupATurn`, proved in proofs/Turns.antt); if one had, the ascending would be first.
unfoldable pub before : Standing → ℕ → Standing → ℕ → Bool
before (Up t x) p (Up u y) q = ltb t u || (eqb t u && lower x p y q)
before (Up t x) p (Down u y) q = leb t u
before (Up t x) p Nowhere q = true
before (Down t x) p (Up u y) q = ltb t u
before (Down t x) p (Down u y) q = ltb t u || (eqb t u && lower y q x p)
before (Down t x) p Nowhere q = true
before Nowhere p s q = false

unfoldable pub grouped : Standing → Bool
grouped (Up t x) = true
grouped (Down t x) = true
grouped Nowhere = false

-- no turn of a ranking has a group that ascends and one that descends
abbrev pub OneGroupATurn : (ℕ → Standing) → Type 0
OneGroupATurn standing = (x y t u v : ℕ) → standing x ≡ Up t u → standing y ≡ Down t v → ⊥
