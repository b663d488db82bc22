-- "The order and the offers are as for a lone font with the same tables, save the `cmap` offset": of two jobs that differ in such fonts alone. Proved in
-- proofs/LoneFonts.antt.
use Rattle.std.specs.Prelude.{ℕ, ◌≡◌, List, [], ◌∷◌, get_or, take, drop}
use Rattle.font.specs.LookedAt.{SameFont, MovedWithCmap}
use Rattle.query.specs.declared.answer.Offer.{Offer}
use Rattle.query.specs.Call.{CallAnswer}
use Rattle.query.specs.Fields.{NumberedFont}
use Rattle.query.specs.Entries.{Face}
use Rattle.query.specs.Job.{Job}
use Rattle.query.specs.Layout.{layout}
use Rattle.query.specs.View.{entry_of, families_of}
use Rattle.query.specs.Call.{answer_call, Called, offer_call}
use Rattle.query.specs.Demands.{family_at}

-- ---- the jobs

-- face entries of fonts with the same tables, as a collection's font and a lone font can be
pub record SameEntry (a b : Face) : Type 0 where
  pub held : a.held ≡ b.held
  pub font : SameFont a.font.file a.font.number b.font.file b.font.number

pub data SameEntries : List Face → List Face → Type 0 where
  none : SameEntries [] []
  more : {a b : Face} {es gs : List Face} → SameEntry a b → SameEntries es gs → SameEntries (a ∷ es) (b ∷ gs)

pub record SameJobs (i j : Job) : Type 0 where
  pub faces : SameEntries i.faces j.faces
  pub overrides : i.overrides ≡ j.overrides
  pub families : i.families ≡ j.families
  pub requests : i.requests ≡ j.requests

-- ---- their answers

-- the font of the face that an offer names
unfoldable pub font_of_offer : Job → Offer → NumberedFont
font_of_offer job o = (entry_of job.faces (get_or (get_or (families_of job) o.family []) o.place 0)).font

-- one answer, but for the `cmap` offset, which differs as the places do where the `cmap` of the two fonts lies
pub record AnswersAlike (i j : Job) (a b : CallAnswer) : Type 0 where
  pub result : a.result ≡ b.result
  pub offer : a.offer ≡ b.offer
  pub synthesis : a.synthesis ≡ b.synthesis
  pub symbol : a.charmap_index.is_symbol ≡ b.charmap_index.is_symbol
  pub roman : a.charmap_index.is_mac_roman ≡ b.charmap_index.is_mac_roman
  pub offset : a.result ≡ 0
      → MovedWithCmap (font_of_offer i a.offer).file (font_of_offer i a.offer).number (font_of_offer j b.offer).file (font_of_offer j b.offer).number
      a.charmap_index.subtable_offset b.charmap_index.subtable_offset

-- one result, and one output but for the four bytes of the `cmap` offset, at 32
pub record CallsAlike (a b : Called) : Type 0 where
  pub result : a.result ≡ b.result
  pub before : take 32 a.output ≡ take 32 b.output
  pub behind : drop 36 a.output ≡ drop 36 b.output

-- each family is the same to the order of faces; and of every request, offer number and output: under one reading
pub record AnsweredAlike (i j : Job) : Type 0 where
  pub order : (reading f : ℕ) → family_at reading i f ≡ family_at reading j f
  pub answers : (reading k n : ℕ) → AnswersAlike i j (answer_call (layout i) reading k n) (answer_call (layout j) reading k n)
  pub calls : (reading k n : ℕ) (out : List ℕ) → CallsAlike (offer_call (layout i) reading k n out) (offer_call (layout j) reading k n out)
