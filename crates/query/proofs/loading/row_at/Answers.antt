use Prim.Native.Nat.{ℕ, ◌+◌, ◌*◌}
use mathlib.Core.Path.{◌≡◌, refl, ap, ◌∙◌}
use mathlib.Core.Bool.{Bool, true, false}
use mathlib.Core.List.{List}
use lib.Dec.{eqb}
use lib.ListN.{get_or}
use Rattle.std.specs.Int.{from_bool}
use Rattle.font.specs.declared.font.Stated.{Stated}
use Rattle.font.specs.Collection.{font_start}
use Rattle.font.specs.Font.{stated_at}
use Rattle.matching.specs.Matching.{slnt}
use Rattle.matching.specs.Rows.{row_of}
use Rattle.query.specs.Values.{file_at, file_end, number_behind, face_at}
use Rattle.query.specs.CallTables.{bit_of, marks, attributes_in, axis_in, row_at}
use Rattle.query.proofs.loading.row_at.Goals as goal

bit_byte : (b : Bool) → from_bool b ≡ bit_of b
bit_byte true = refl
bit_byte false = refl

-- the row of what the file's font states
row_of_lem : (reading : ℕ) (s : List ℕ) (at : ℕ) {file : List ℕ} {number held slant : ℕ} {stated : Stated} → file ≡ file_at s at → number ≡ number_behind s (file_end s at) file
    → stated ≡ stated_at reading file (font_start file number) slnt → held ≡ from_bool (eqb (get_or s at 0) 1) → slant ≡ from_bool stated.has_axis
    → row_of stated.attributes (4 * at + (2 * held + slant)) ≡ row_at reading s at
unfolding row_at marks attributes_in axis_in stated_at face_at
row_of_lem reading s at f n e h x = rw (x, h, e, n, f) (simp bit_byte)

pub returns : goal.returns
unfolding slnt
returns c =
    let given = c.requires.at_bound in
    c.new.ensures
    ∙ row_of_lem _ _ _ given.1 given.2 c.read_stated-stated.ensures (c.from-held.ensures ∙ ap (λ (b : ℕ). from_bool (eqb b 1)) c.byte_at.ensures) c.from-slant.ensures
