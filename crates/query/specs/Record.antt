-- Section 6: the 40 bytes of an offer. "Job and output are big-endian".
use Rattle.std.specs.Prelude.{ℕ, ◌-◌, ◌<◌, ◌≡◌, Bool, true, false, cond, List, [], ◌∷◌, ◌++◌, ltb, ℤ, pos, negsuc, Float, get_or, Option, None, Some}
use Rattle.std.specs.Float.{nan, binary32}
use Rattle.std.specs.Float.Ieee.{to_bits, is_nan}
use Rattle.font.specs.declared.charmap.CharmapIndex.{CharmapIndex}
use Rattle.matching.specs.declared.synthesis.Setting.{Setting}
use Rattle.matching.specs.Synthesis.{SynthesisAnswer}
use Rattle.query.specs.declared.answer.Offer.{Offer}
use Rattle.query.specs.Layout.{bytes16, bytes32}

-- a flag of one byte
unfoldable pub flag : Bool → ℕ
flag true = 1
flag false = 0

-- "skew (two's complement)", of one byte
unfoldable pub twos_complement : ℤ → ℕ
twos_complement (pos n) = n
twos_complement (negsuc n) = 255 - n

-- "family and place (16-bit), embolden, skew (two's complement), setting count, zero (bytes)"
unfoldable pub head_bytes : Offer → Bool → ℤ → ℕ → List ℕ
head_bytes offer embolden skew count =
    bytes16 offer.family ++ (bytes16 offer.place ++ (flag embolden ∷ twos_complement skew ∷ count ∷ 0 ∷ []))

-- "tag-and-value slots (unused zero)"; a value is its "32-bit single bits"
unfoldable pub slot_bytes : Bool → ℕ → Float → List ℕ
slot_bytes used tag value = bytes32 (cond used tag 0) ++ bytes32 (cond used (to_bits binary32 value) 0)

unfoldable pub slot_at : ℕ → List ℕ → List Float → ℕ → List ℕ
slot_at count tags values i = slot_bytes (ltb i count) (get_or tags i 0) (get_or values i nan)

-- so of a setting; of none, the slot is not used
unfoldable pub setting_bytes : Option Setting → List ℕ
setting_bytes None = slot_bytes false 0 nan
setting_bytes (Some s) = slot_bytes true s.tag s.value

-- "cmap offset (32-bit), symbol, Mac Roman, two zero bytes"
unfoldable pub index_bytes : CharmapIndex → List ℕ
index_bytes index =
    bytes32 index.subtable_offset ++ (flag index.is_symbol ∷ flag index.is_mac_roman ∷ 0 ∷ 0 ∷ [])

-- no setting is a NaN, which has no bits of its own; every offer keeps to this (proofs/AnswerCases.antt)
abbrev pub Numbers : SynthesisAnswer → Type 0
Numbers s = (i : ℕ) → i < s.len → is_nan (get_or s.values i nan) ≡ false

unfoldable pub record_bytes : Offer → SynthesisAnswer → CharmapIndex → List ℕ
record_bytes offer s index =
    head_bytes offer s.embolden s.skew s.len
    ++ (slot_at s.len s.tags s.values 0
    ++ (slot_at s.len s.tags s.values 1 ++ (slot_at s.len s.tags s.values 2 ++ index_bytes index)))
