-- What an offer call loads of an accepted job: a row for each face, and where each family begins. No promise to a user cites this.
use Rattle.std.specs.Prelude.{ℕ, ◌+◌, ◌-◌, ◌*◌, ◌/◌, ◌%◌, ◌^◌, ◌≤◌, ◌<◌, ◌≡◌, Bool, cond, List, [], ◌∷◌, map, eqb, length, get_or, set, Option, None, Some}
use Rattle.font.specs.Single.{order_key, whole_percent}
use Rattle.font.specs.Tables.{u16_at}
use Rattle.font.specs.StatedAttributes.{from_tables}
use Rattle.font.specs.Collection.{font_start}
use Rattle.font.specs.Font.{font_refusal, states_axis}
use Rattle.font.specs.Overrides.{set_defaults, with_axes}
use Rattle.font.specs.declared.attributes.Attributes.{Attributes}
use Rattle.font.specs.declared.font.FontInfo.{FontInfo}
use Rattle.font.specs.declared.attributes.FontWidth.{FontWidth}
use Rattle.font.specs.declared.attributes.FontStyle.{FontStyle}
use Rattle.font.specs.declared.attributes.FontWeight.{FontWeight}
use Rattle.font.specs.declared.overrides.FontInfoOverride.{FontInfoOverride}
use Rattle.matching.specs.Matching.{style_number, has_axis, slnt}
use Rattle.matching.specs.declared.rows.Row.{Row}
use Rattle.matching.specs.Rows.{no_row, place_row, row_of}
use Rattle.query.specs.Positions.{WalkEnd, Asked}
use Rattle.query.specs.Sizes.{most_bytes, most_overrides, most_families, most_places}
use Rattle.query.specs.Fields.{NumberedFont, counted}
use Rattle.query.specs.Reader.{many}
use Rattle.query.specs.Entries.{Face, Pair, Override, Request, read_face, read_override}
use Rattle.query.specs.Job.{check_job, job_of}
use Rattle.query.specs.Positions.{LiesAt}
use Rattle.query.specs.Values.{face_at, request_at}
use Rattle.query.specs.View.{View, after_overrides, entry_of, stated_by, families_of, view_of}

-- ---- rows

-- the last column of a face's row: where its entry begins, whether it is held, and whether it has a slant axis
abbrev pub bit_of : Bool → ℕ
bit_of b = cond b 1 0

unfoldable pub marks : ℕ → Bool → Bool → ℕ
marks entry held slant = 4 * entry + (2 * bit_of held + bit_of slant)

unfoldable pub is_held : Row → Bool
is_held row = eqb (row.marks / 2 % 2) 1

-- whether the face at a place of a family is held
unfoldable pub held_row : List Row → List ℕ → ℕ → Bool
held_row rows members i = is_held (place_row rows members i)

-- the attributes, under a reading, and the axes that a file's font states
unfoldable pub attributes_in : ℕ → NumberedFont → Attributes
attributes_in reading f = from_tables reading f.file (font_start f.file f.number)

unfoldable pub axis_in : NumberedFont → ℕ → Bool
axis_in f tag = states_axis f.file (font_start f.file f.number) tag

-- the row of the face whose entry begins at a position, before its overrides
unfoldable pub row_at : ℕ → List ℕ → ℕ → Row
row_at reading s p = row_of (attributes_in reading (face_at s p).font) (marks p (face_at s p).held (axis_in (face_at s p).font slnt))

-- ---- overrides on rows

unfoldable pub with_width : Option FontWidth → Row → Row
with_width None row = row
with_width (Some w) row = record row { percent = whole_percent w.ratio; ratio = order_key w.ratio }

unfoldable pub with_style : Option FontStyle → Row → Row
with_style None row = row
with_style (Some t) row = record row { style = style_number t }

unfoldable pub with_weight : Option FontWeight → Row → Row
with_weight None row = row
with_weight (Some w) row = record row { weight = order_key w.value }

unfoldable pub row_overridden : FontInfoOverride → Row → Row
row_overridden o row = with_weight o.weight (with_style o.style (with_width o.width row))

-- overrides in order, each on the row of the face that it names
unfoldable pub rows_after : List Override → List Row → List Row
rows_after [] rows = rows
rows_after (o ∷ os) rows = rows_after os (set rows o.face (row_overridden o.given (get_or rows o.face no_row)))

-- the font layer does not refuse a font
abbrev pub FontTaken : NumberedFont → Type 0
FontTaken f = font_refusal f.file f.number ≡ 0

-- ---- what the steps of loading promise

-- so many faces lie one after another from a position on, in a job that is not too long
pub record FacesLie (s : List ℕ) (at count : ℕ) : Type 0 where
  pub short : length s ≤ most_bytes
  pub faces : List Face
  pub lie : LiesAt (many count read_face) s at faces

-- the row of a face is that of its entry, before its overrides
pub record EntryRow (reading : ℕ) (s : List ℕ) (face : Face) (row : Row) : Type 0 where
  pub entry : ℕ
  pub is : row ≡ row_at reading s entry
  pub face_is : face_at s entry ≡ face
  pub taken : FontTaken face.font
  pub inside : entry < length s

-- the rows of so many faces that lie one after another from a position on
pub record RowsAt (reading : ℕ) (s : List ℕ) (at count : ℕ) (before rows : List Row) : Type 0 where
  pub long : length rows ≡ length before
  pub each : (faces : List Face) → LiesAt (many count read_face) s at faces → (i : ℕ) → i < count → EntryRow reading s (entry_of faces i) (get_or rows i no_row)

-- rows after the overrides that lie at a position, of faces that all have a row
pub record RowsOverridden (s : List ℕ) (at count : ℕ) (before after : List Row) : Type 0 where
  pub long : length after ≡ length before
  pub are : (n : ℕ) (os : List Override) → n ≤ length before → LiesAt (many count (read_override n)) s at os → after ≡ rows_after os before

-- a face after the first k of some pairs, in order
unfoldable pub after_pairs : List Pair → ℕ → FontInfo → FontInfo
after_pairs ps k f =
    with_axes f
    (set_defaults f.axes f.axis_count (map (λ (p : Pair). p.tag) ps) (map (λ (p : Pair). p.value) ps) k)

-- a face after the overrides that lie at a position and name it
pub record FaceOverridden (s : List ℕ) (at count number : ℕ) (before after : FontInfo) : Type 0 where
  pub is : (n : ℕ) (os : List Override) → LiesAt (many count (read_override n)) s at os → after ≡ after_overrides os number before

-- the face of a number under a reading, by the position of its entry, after the overrides, by the position of their section
pub record OfferedFace (reading : ℕ) (s : List ℕ) (section entry number : ℕ) (font : FontInfo) : Type 0 where
  pub is : (n : ℕ) (os : List Override) → LiesAt (counted most_overrides (read_override n)) s section os
      → font ≡ after_overrides os number (stated_by reading (face_at s entry).font)

-- ---- what is loaded

-- whatever it says of the face i of a job, a row tells where the face's entry begins
pub record RowIn (s : List ℕ) (i : ℕ) (row : Row) : Type 0 where
  pub entry : ℕ
  pub told : row.marks / 4 ≡ entry
  pub face : face_at s entry ≡ entry_of (job_of s).faces i
  pub taken : FontTaken (face_at s entry).font
  pub inside : entry < length s

-- the row of the face i of a view
pub record RowShows (view : View) (i : ℕ) (row : Row) : Type 0 where
  pub entry : ℕ
  pub is : row ≡ row_of (view.font i).attributes (marks entry (view.held i) (has_axis (view.font i) slnt))

-- the rows of a job's faces under a reading
abbrev pub RowsShow : ℕ → List ℕ → List Row → Type 0
RowsShow reading s rows = (i : ℕ) → i < length (job_of s).faces → RowShows (view_of reading (job_of s)) i (get_or rows i no_row)

-- a family's number in the table: where its entry begins and, once its offers are counted, `count_step` times one more than there are
abbrev pub count_step : ℕ
count_step = 2 ^ 25

abbrev pub begin_of : ℕ → ℕ
begin_of n = n % count_step

abbrev pub known_of : ℕ → ℕ
known_of n = n / count_step

-- no family's offers are counted yet
abbrev pub Uncounted : List ℕ → Type 0
Uncounted families = (f : ℕ) → f < most_families → get_or families f 0 < count_step

-- a family whose entry begins at a position: face numbers of a job of so many faces
pub record FamilyIn (s : List ℕ) (p faces : ℕ) (members : List ℕ) : Type 0 where
  pub low : p < count_step
  pub whole : (length members ≡ 0 → ⊥) → p + 2 + 2 * length members ≤ length s
  pub count : u16_at s p ≡ length members
  pub few : length members ≤ most_places
  pub member : (i : ℕ) → i < length members → u16_at s (p + 2 + 2 * i) ≡ get_or members i 0
  pub known : (i : ℕ) → i < length members → get_or members i 0 < faces

-- a request whose entry begins at a position
pub record RequestIn (s : List ℕ) (p : ℕ) (r : Request) : Type 0 where
  pub is : request_at s p ≡ r
  pub inside : p < length s

-- past the end of every job: where the families begin that a job does not have
abbrev pub nowhere : ℕ
nowhere = count_step - 1

-- the faces of the job, if it is accepted, all have a row
abbrev pub Room : List ℕ → List Row → Type 0
Room s rows = length (job_of s).faces ≤ length rows

-- the face numbers of a family; a number that the job does not have has none
abbrev pub members_in : List ℕ → ℕ → List ℕ
members_in s f = get_or (families_of (job_of s)) f []

pub record TablesOf (s : List ℕ) (rows : List Row) (families : List ℕ) : Type 0 where
  pub accepted : (check_job s).refusal ≡ 0
  pub room : Room s rows
  pub row : (i : ℕ) → i < length (job_of s).faces → RowIn s i (get_or rows i no_row)
  pub long : length families ≡ most_families
  pub family : (f : ℕ) → f < most_families → FamilyIn s (begin_of (get_or families f 0)) (length (job_of s).faces) (members_in s f)
  pub known : length (job_of s).families ≤ most_families

-- the check call's answer; and of an accepted job what is loaded, its overrides, and the asked request
pub record LoadAnswer (reading : ℕ) (s : List ℕ) (w : WalkEnd) (rows : List Row) (families : List ℕ) (asked : ℕ) : Type 0 where
  pub checked : record { refusal = w.refusal; position = w.position } ≡ check_job s
  pub loaded : w.refusal ≡ 0 → TablesOf s rows families
  pub shown : w.refusal ≡ 0 → RowsShow reading s rows
  pub uncounted : w.refusal ≡ 0 → Uncounted families
  pub overrides : w.refusal ≡ 0 → LiesAt (counted most_overrides (read_override (length (job_of s).faces))) s w.overrides (job_of s).overrides
  pub request : w.refusal ≡ 0 → Asked s (job_of s).requests asked w.request
