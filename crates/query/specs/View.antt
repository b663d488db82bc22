-- Section 6: what the offers look at in a job, under a reading.
use Rattle.std.specs.Prelude.{ℕ, Bool, false, cond, List, [], ◌∷◌, map, eqb, get_or}
use Rattle.font.specs.declared.font.FontInfo.{FontInfo}
use Rattle.font.specs.Font.{from_font_ref}
use Rattle.font.specs.Overrides.{with_override}
use Rattle.query.specs.Fields.{NumberedFont}
use Rattle.query.specs.Entries.{Face, Pair, Override, Family}
use Rattle.query.specs.Job.{Job}

-- By face number: each face after its overrides, and whether it is held. By family number: its face numbers, in place order.
pub record View : Type 0 where
  pub font : ℕ → FontInfo
  pub held : ℕ → Bool
  pub families : List (List ℕ)

-- an override on the face that it names, by section 3
unfoldable pub overridden_by : Override → FontInfo → FontInfo
overridden_by o f = with_override f o.given (map (λ (p : Pair). p.tag) o.pairs) (map (λ (p : Pair). p.value) o.pairs)

-- "Overrides .. Applied in order." Those of the face i.
unfoldable pub after_overrides : List Override → ℕ → FontInfo → FontInfo
after_overrides [] i f = f
after_overrides (o ∷ os) i f = after_overrides os i (cond (eqb o.face i) (overridden_by o f) f)

-- the entry of a face; what stands past the list is read by nothing
abbrev pub no_entry : Face
no_entry = record { held = false; font = record { file = []; number = 0 } }

unfoldable pub entry_of : List Face → ℕ → Face
entry_of faces i = get_or faces i no_entry

-- the face that a file's font states under a reading, before its overrides
unfoldable pub stated_by : ℕ → NumberedFont → FontInfo
stated_by reading f = (from_font_ref reading f.file f.number).font

-- what the families have is the same under every reading
unfoldable pub families_of : Job → List (List ℕ)
families_of job = map (λ (m : Family). m.members) job.families

-- A job whose faces' fonts are read by `stated`. "Request and override angles stay as given."
unfoldable pub view_by : (NumberedFont → FontInfo) → Job → View
view_by stated job =
    record {
      font = λ i. after_overrides job.overrides i (stated (entry_of job.faces i).font);
      held = λ i. (entry_of job.faces i).held;
      families = families_of job;
    }

unfoldable pub view_of : ℕ → Job → View
view_of reading job = view_by (stated_by reading) job
