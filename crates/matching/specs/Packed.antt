-- How the code carries a standing and a place as one number. No promise to a caller cites this: the lower number stands before (proofs/Ranks.antt).
use Rattle.std.specs.Prelude.{ℕ, ◌+◌, ◌-◌, ◌*◌, ◌/◌, ◌%◌, ◌^◌, ◌<◌, ◌≡◌, max, Bool, ◌&&◌, cond, eqb, ltb}
use Rattle.font.specs.First.{least_below}
use Rattle.matching.specs.declared.order.Request.{Request}
use Rattle.matching.specs.declared.rank.Standing.{Standing}
use Rattle.matching.specs.declared.rank.Standing.TheVariants.{Up, Down, Nowhere}
use Rattle.matching.specs.Order.{Face, Family, width_standing, style_standing, weight_standing}

abbrev pub packed : Standing → ℕ → ℕ
packed (Up t x) p = (t * 2 * 2 ^ 32 + x) * 64 + p
packed (Down t x) p = ((t * 2 + 1) * 2 ^ 32 + (2 ^ 32 - 1 - x)) * 64 + (63 - p)
packed Nowhere p = 2 ^ 64 - 1

unfoldable pub place_of : ℕ → ℕ
place_of r = cond (eqb (r / 2 ^ 38 % 2) 0) (r % 64) (63 - r % 64)

-- The rank of a face at a place: in width; in style, among the faces of a percent; and in weight, among those of a percent and a style.
abbrev pub width_rank : Request → Face → ℕ → ℕ
width_rank request face i = packed (width_standing request.percent face.percent) i

abbrev pub style_rank : Request → ℕ → Bool → Face → ℕ → ℕ
style_rank request percent slant face i =
    cond (eqb face.percent percent) (packed (style_standing request.synthesis slant request.style face.style) i) (2 ^ 64 - 1)

abbrev pub weight_rank : Request → ℕ → ℕ → Face → ℕ → ℕ
weight_rank request percent style face i =
    cond (eqb face.percent percent && eqb face.style style) (packed (weight_standing request.weight face.weight) i) (2 ^ 64 - 1)

-- whether a slant axis matters to the request, and whether a face is of the percent and has one
unfoldable pub asks_slant : Request → Bool
asks_slant request = request.synthesis && ltb 1 request.style

abbrev pub slants : ℕ → Face → Bool
slants percent face = eqb face.percent percent && face.slant

-- the largest of the numbers of a face that are ranked
abbrev pub largest : Face → ℕ
largest face = max face.percent (max face.style face.weight)

-- What a scan of a family finds: the least of the ranks, which is 2 ^ 64 - 1 where no face has one; and that the numbers ranked are of 32 bits.
abbrev pub least_rank : Family → (Face → ℕ → ℕ) → ℕ
least_rank family rank = least_below (2 ^ 64 - 1) (λ i. rank (family.face i) i) family.count

pub record Scanned (family : Family) (rank : Face → ℕ → ℕ) (number : Face → ℕ) (r : ℕ) : Type 0 where
  pub least : r ≡ least_rank family rank
  pub short : (i : ℕ) → i < family.count → number (family.face i) < 2 ^ 32
