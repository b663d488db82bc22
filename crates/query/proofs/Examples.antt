-- Section 7's pairs that concern the job alone, and the first refusal met in small jobs: each answer is computed from the definition.
use Prim.Native.Nat.{ℕ}
use mathlib.Core.Path.{◌≡◌, refl}
use mathlib.Core.Bool.{Bool, true, ◌&&◌}
use mathlib.Core.List.{List, [], ◌∷◌, ◌++◌}
use lib.ListN.{replicate}
use lib.Dec.{eqb}
use lib.Ieee.{of_bits, of_int, le, lt, eq}
use Rattle.font.specs.Single.{single, accepted_ratio}
use Rattle.font.specs.First.{first}
use Rattle.font.specs.Tables.{u16_at, u32_at, starts_as_font, record_count, record_tag, record_offset, record_length, directory_fits, first_record, table_of_record, find_table, hand_out, handed_table, is_damaged}
use Rattle.font.specs.Collection.{is_collection, header_fits, font_count, offsets_fit, offset_of, font_start}
use Rattle.font.specs.Charmap.{index_in, charmap_index_of}
use Rattle.font.specs.StatedAttributes.{needed_damaged, loses_needed}
use Rattle.font.specs.Font.{has_index, refusal_at, font_refusal}
use Rattle.query.specs.Reader.{number, done, onward, ◌>>=◌, field, tested, many}
use Rattle.query.specs.Fields.{byte, half, word, ratio, value, count, counted, byte_counted, held_byte, face_number, kind, spare_word, or_spare, font_row, font_bytes, sized_file, number_below, refused_at, font_number, font_taken, numbered, font_file}
use Rattle.query.specs.Fields.{single as singleField}
use Rattle.query.specs.Entries.{read_face, style_of_kind, read_angle, read_style, read_override, read_family, read_requested, read_request}
use Rattle.query.specs.Job.{at_end, read_sections, read_job, answer, check_job}

pub record Case : Type 0 where
  pub job : List ℕ
  pub refusal : ℕ
  pub position : ℕ

answers : List ℕ → ℕ → ℕ → Case
answers job refusal position = record { job = job; refusal = refusal; position = position }

-- one request for at most 8 offers, normal and of weight 400, of a ratio, a kind and an angle
request : List ℕ → ℕ → List ℕ → List ℕ
request ratio kind angle =
    0 ∷ 0 ∷ 0 ∷ 0 ∷ 0 ∷ 0 ∷ 0 ∷ 1 ∷ 0 ∷ 8 ∷ ratio ++ (kind ∷ angle ++ (0x43 ∷ 0xC8 ∷ 0 ∷ 0 ∷ 0 ∷ 0 ∷ []))

zero4 : List ℕ
zero4 = replicate 4 0

-- one face, a collection of 12 bytes, with the first and the last byte of its count; then the bytes after it
collection : ℕ → ℕ → List ℕ → List ℕ
collection high low rest =
    0 ∷ 1 ∷ 1 ∷ 0 ∷ 0 ∷ 0 ∷ 12 ∷ 0x74 ∷ 0x74 ∷ 0x63 ∷ 0x66 ∷ 0 ∷ 1 ∷ 0 ∷ 0 ∷ high ∷ 0 ∷ 0 ∷ low ∷ rest

-- one face, a lone font of 28 bytes whose directory has one record, of a tag and of length 0
one_record : ℕ → List ℕ → List ℕ
one_record held tag = 0 ∷ 1 ∷ held ∷ 0 ∷ 0 ∷ 0 ∷ 28 ∷ 0 ∷ 1 ∷ 0 ∷ 0 ∷ 0 ∷ 1 ∷ 0 ∷ 0 ∷ 0 ∷ 0 ∷ 0 ∷ 0 ∷ tag ++ replicate 12 0

pub cases : List Case
cases =
    -- "eight zero bytes accepted, nine 27"
    answers (replicate 8 0) 0 0
    ∷ answers (replicate 9 0) 27 8
    ∷ answers (replicate 7 0) 18 6
    ∷ answers [] 18 0
    -- faces: 257 of them; held 2; a font of one byte that is cut; an empty font
    ∷ answers (1 ∷ 1 ∷ []) 19 0
    ∷ answers (0 ∷ 1 ∷ 2 ∷ []) 20 2
    ∷ answers (0 ∷ 1 ∷ 1 ∷ 0 ∷ 0 ∷ 0 ∷ 1 ∷ []) 18 3
    ∷ answers (0 ∷ 1 ∷ 1 ∷ 0 ∷ 0 ∷ 0 ∷ 0 ∷ []) 21 3
    -- a file of three bytes, and a collection of four: both without a header, and no number is looked for
    ∷ answers (0 ∷ 1 ∷ 1 ∷ 0 ∷ 0 ∷ 0 ∷ 3 ∷ 0x74 ∷ 0x74 ∷ 0x63 ∷ []) 21 3
    ∷ answers (0 ∷ 1 ∷ 1 ∷ 0 ∷ 0 ∷ 0 ∷ 4 ∷ 0x74 ∷ 0x74 ∷ 0x63 ∷ 0x66 ∷ []) 21 3
    -- a collection of 12 bytes that states no fonts: its number is cut, then not below the count; one that states a font, but has no offset
    ∷ answers (collection 0 0 []) 18 19
    ∷ answers (collection 0 0 (0 ∷ [])) 18 19
    ∷ answers (collection 0 0 (0 ∷ 0 ∷ [])) 30 19
    ∷ answers (collection 0 1 []) 18 19
    ∷ answers (collection 0 1 (0 ∷ 1 ∷ [])) 30 19
    ∷ answers (collection 0 1 (0 ∷ 0 ∷ [])) 21 3
    -- one that states 2^30, whose offsets would end where they begin if 12 + 4 * count wrapped at 2^32
    ∷ answers (collection 0x40 0 (0 ∷ 0 ∷ [])) 21 3
    -- a damaged OS/2, and a damaged `head` without OS/2, both before the lack of `cmap` and whether the face is held or not; damaged tables that are not needed
    ∷ answers (one_record 1 (0x4F ∷ 0x53 ∷ 0x2F ∷ 0x32 ∷ [])) 31 3
    ∷ answers (one_record 0 (0x4F ∷ 0x53 ∷ 0x2F ∷ 0x32 ∷ [])) 31 3
    ∷ answers (one_record 1 (0x68 ∷ 0x65 ∷ 0x61 ∷ 0x64 ∷ [])) 31 3
    ∷ answers (one_record 1 (0x70 ∷ 0x6F ∷ 0x73 ∷ 0x74 ∷ [])) 22 3
    ∷ answers (one_record 1 (0x66 ∷ 0x76 ∷ 0x61 ∷ 0x72 ∷ [])) 22 3
    ∷ answers (one_record 1 (0x63 ∷ 0x6D ∷ 0x61 ∷ 0x70 ∷ [])) 22 3
    -- an override of a face that the job lacks, cut and whole
    ∷ answers (0 ∷ 0 ∷ 0 ∷ 1 ∷ 0 ∷ []) 18 4
    ∷ answers (0 ∷ 0 ∷ 0 ∷ 1 ∷ 0 ∷ 0 ∷ []) 24 4
    -- a family of 65 faces
    ∷ answers (0 ∷ 0 ∷ 0 ∷ 0 ∷ 0 ∷ 1 ∷ 0 ∷ 65 ∷ []) 19 6
    -- "ratio 16 and the next single"; minus zero
    ∷ answers (request (0x41 ∷ 0x80 ∷ 0 ∷ 0 ∷ []) 0 zero4) 0 0
    ∷ answers (request (0x41 ∷ 0x80 ∷ 0 ∷ 1 ∷ []) 0 zero4) 26 10
    ∷ answers (request (0x80 ∷ 0 ∷ 0 ∷ 0 ∷ []) 0 zero4) 0 0
    -- an unknown kind; a spare angle of minus zero, and of an infinity; a stated angle of both
    ∷ answers (request zero4 4 zero4) 25 14
    ∷ answers (request zero4 2 (0x80 ∷ 0 ∷ 0 ∷ 0 ∷ [])) 25 15
    ∷ answers (request zero4 2 (0x7F ∷ 0x80 ∷ 0 ∷ 0 ∷ [])) 25 15
    ∷ answers (request zero4 3 (0x80 ∷ 0 ∷ 0 ∷ 0 ∷ [])) 0 0
    ∷ answers (request zero4 3 (0x7F ∷ 0x80 ∷ 0 ∷ 0 ∷ [])) 26 15
    ∷ []

pub right : List Case → Bool
right [] = true
right (c ∷ cs) = eqb (check_job c.job).refusal c.refusal && (eqb (check_job c.job).position c.position && right cs)

pub small_jobs : right cases ≡ true
unfolding right cases answers request zero4 collection one_record check_job read_job answer read_sections counted byte_counted count tested field byte half word u16_at u32_at many done ◌>>=◌ onward at_end number read_face held_byte font_file sized_file font_bytes numbered font_number number_below refused_at font_taken font_row font_refusal refusal_at is_collection header_fits font_count offsets_fit offset_of font_start directory_fits starts_as_font record_count record_tag record_offset record_length first_record first table_of_record find_table hand_out handed_table is_damaged needed_damaged loses_needed charmap_index_of index_in has_index read_override face_number read_family read_request read_requested ratio value singleField accepted_ratio single of_int of_bits le lt eq read_style kind or_spare spare_word read_angle style_of_kind
small_jobs = refl
