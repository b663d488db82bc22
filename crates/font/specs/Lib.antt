-- What the contracts of `font` cite. Each definition renders the rules of docs/GUIDE.md, sections 1 to 3, and OpenType's tables.
pub mod First
pub mod Refusals
pub mod Single
pub mod Nearest
pub mod Attributes
pub mod Slant
pub mod Tables
pub mod Collection
pub mod Charmap
pub mod StatedAttributes
pub mod Font
pub mod Overrides
-- As laws of these: section 3's sentence on pairs, what section 2 looks at in a file, what lookup's answers mean, what is lost with a damaged
-- table, font reading as it was before damage was told, and the two readings.
pub mod Pairs
pub mod LookedAt
pub mod Answers
pub mod Damage
pub mod Unmoved
pub mod TwoReadings
