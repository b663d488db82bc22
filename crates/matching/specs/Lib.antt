-- What the contracts of `matching` cite. Each definition renders the rules of docs/GUIDE.md, sections 4 and 5.
pub mod Rank
pub mod Below
pub mod Order
pub mod Matching
pub mod Axes
pub mod Family
pub mod Synthesis
-- Section 7's items, one statement about these; and the two readings.
pub mod Faces
pub mod TwoReadings
-- How the code carries a face and a rank: nothing here is a promise to a user.
pub mod Packed
pub mod Rows
pub mod FamilyRows
