-- Section 6: the sizes of a job's entries and of the output in bytes, and the limits of its counts.
use Rattle.std.specs.Prelude.{ℕ}

-- "job over 16,777,216 bytes"
abbrev pub most_bytes : ℕ
most_bytes = 16777216

-- "Faces (to 256) .. Overrides (to 256) .. Families (to 64): 16-bit face count (to 64) .. Requests (to 256)"
abbrev pub most_faces : ℕ
most_faces = 256

-- a job of so many faces at most is answered with the smaller table of rows
abbrev pub few_faces : ℕ
few_faces = 64

abbrev pub most_overrides : ℕ
most_overrides = 256

abbrev pub most_families : ℕ
most_families = 64

abbrev pub most_places : ℕ
most_places = 64

abbrev pub most_requests : ℕ
most_requests = 256

-- a face before its font file: held byte and length
abbrev pub face_head : ℕ
face_head = 5

-- the font number behind a collection's file
abbrev pub font_number_size : ℕ
font_number_size = 2

-- an override: where its mask, ratio, style, weight and pair count stand after its face; its size before its pairs; and a pair: tag and value
abbrev pub override_mask : ℕ
override_mask = 2

abbrev pub override_ratio : ℕ
override_ratio = 3

abbrev pub override_style : ℕ
override_style = 7

abbrev pub override_weight : ℕ
override_weight = 12

abbrev pub override_count : ℕ
override_count = 16

abbrev pub override_head : ℕ
override_head = 17

abbrev pub pair_size : ℕ
pair_size = 8

-- a request: where its attributes stand after the most offers, and its size before its two lists; and attributes: where style and weight stand after the ratio
abbrev pub request_attributes : ℕ
request_attributes = 2

abbrev pub attributes_style : ℕ
attributes_style = 4

abbrev pub attributes_weight : ℕ
attributes_weight = 9

abbrev pub request_head : ℕ
request_head = 15

-- "40-byte output"
abbrev pub record_size : ℕ
record_size = 40
