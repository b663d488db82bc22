-- A value compared with itself tells whether it is a NaN, which is how the code tests for one. Assumes nothing.
use mathlib.Core.Path.{◌≡◌, subst}
use mathlib.Core.Bool.{false, not}
use lib.Dec.{T}
use lib.Ieee.{Float, nan, inf, fin, ne, is_nan}

pub no_nan : (x : Float) → ne x x ≡ false → T (not (is_nan x))
unfolding is_nan ne
no_nan nan h = subst T h tt
no_nan (inf s) h = tt
no_nan (fin s m e) h = tt
