-- Laws that the proofs of `font` share, and laws that tie its definitions to the document's words.
-- Section 1: single-precision numbers.
pub mod Floats
pub mod Scaled
pub mod Closest
pub mod Units
pub mod Fixed
pub mod Nearest
pub mod Nan
pub mod FiniteBits
pub mod Pattern
pub mod Steps
pub mod Casts
pub mod OrderKey
pub mod Compare
pub mod Order
pub mod InOrder
pub mod Percent
-- The two readings of a slant.
pub mod Opposites
pub mod Readings
-- Section 2: font reading.
pub mod Fields
pub mod First
pub mod Least
pub mod Tabulated
pub mod Taken
pub mod Lookup
pub mod Needed
pub mod Collections
pub mod Records
pub mod Inside
pub mod Classes
pub mod FaceOf
pub mod Qualifying
pub mod FieldReaders
pub mod AnyReader
pub mod LookedAt
pub mod CutTables
pub mod Elsewhere
pub mod SameFonts
-- Damaged tables.
pub mod Answers
pub mod Damage
pub mod Unmoved
pub mod TwoReadings
-- Section 3: overrides.
pub mod Defaults
pub mod Refusals
pub mod Pairs
pub mod Accepted
