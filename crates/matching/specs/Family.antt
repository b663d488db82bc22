-- Sections 4 and 6: a family by value with its default, and the fetch of a face by place.
use Rattle.std.specs.Prelude.{ℕ, cond, List, ltb, eqb, get_or, Result, Ok, Err}
use Rattle.font.specs.Refusals.{number, Checked, checked}
use Rattle.font.specs.declared.font.FontInfo.{FontInfo}
use Rattle.font.specs.declared.refusal.Refusal.{Refusal}
use Rattle.matching.specs.declared.family.FamilyInfo.{FamilyInfo}
use Rattle.matching.specs.Matching.{no_face, family_of, faces_refusal, default_place}

-- a family, and the number of the refusal, 0 for none
pub record Made : Type 0 where
  pub refusal : ℕ
  pub family : FamilyInfo

-- so of the answer for these faces; beside a refusal stands the family with the default 0
unfoldable pub made_in : List FontInfo → ℕ → Result FamilyInfo Refusal → Made
made_in fonts n (Ok family) = record { refusal = 0; family = family }
made_in fonts n (Err why) = record { refusal = number why; family = record { fonts = fonts; count = n; default_font = 0 } }

-- a family is made of its faces; a refused one has the default 0 and counts for nothing
unfoldable pub made_of : List FontInfo → ℕ → Made
made_of fonts n =
    record {
      refusal = faces_refusal fonts n;
      family = record { fonts = fonts; count = n; default_font = cond (eqb (faces_refusal fonts n) 0) (default_place (family_of fonts n)) 0 };
    }

-- "`FamilyInfo::match_font` only fetches the face and refuses nothing further for a valid place": 19, then 24, and no 26.
unfoldable pub fetch_refusal : FamilyInfo → ℕ → ℕ
fetch_refusal family place = cond (eqb (faces_refusal family.fonts family.count) 19) 19 (cond (ltb place family.count) 0 24)

-- so of an answer
unfoldable pub fetched_in : FamilyInfo → Result FontInfo Refusal → Checked
fetched_in family = checked (get_or family.fonts 0 no_face)

-- the face at the place; where it is refused, the array's first, which is no answer
unfoldable pub fetched : FamilyInfo → ℕ → Checked
fetched family place =
    record {
      refusal = fetch_refusal family place;
      font = get_or family.fonts (cond (eqb (fetch_refusal family place) 0) place 0) no_face;
    }
