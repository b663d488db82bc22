-- Section 7: the words of a line.
use Rattle.std.specs.Prelude.{ℕ, Bool, cond, List, [], ◌∷◌}

-- "`b` or `-`", after a blank
unfoldable pub embolden_word : Bool → List ℕ
embolden_word on = 32 ∷ cond on 98 45 ∷ []
