-- What the contracts of `query` cite. Each definition renders the rules of docs/GUIDE.md, section 6.
pub mod Sizes
pub mod Reader
pub mod Fields
pub mod Entries
pub mod Job
pub mod Layout
pub mod InTurn
pub mod View
pub mod Offers
pub mod Record
pub mod Call
pub mod Cursor
pub mod Demands
pub mod LoneFonts
pub mod TwoReadings
-- How the steps of a call hand on what they found: nothing here is a promise to a user.
pub mod Items
pub mod Sections
pub mod Positions
pub mod Values
pub mod CallTables
pub mod Listed
pub mod Search
