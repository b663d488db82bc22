-- Laws that the proofs of `query` share, and the theorems on the job.
-- How a reader ends: what the code of a field, an entry and a section is proved from.
pub mod Ends
pub mod Leaves
pub mod Runs
pub mod Halves
pub mod Fonts
pub mod Checks
pub mod NotedEntries
pub mod Counted
pub mod WalkCases
-- A byte string is accepted exactly when it is the layout of a job within the limits.
pub mod Stands
pub mod Exact
pub mod ExactLists
pub mod ExactFonts
pub mod ExactEntries
pub mod AcceptedJobs
-- First met, reading left to right.
pub mod Readers
pub mod EntryReaders
pub mod InTurn
pub mod FirstMet
pub mod Examples
-- The offers' bytes.
pub mod Written
pub mod Signs
-- The n-th of a list.
pub mod Picked
-- What lies at a position of an accepted job.
pub mod EvenEntries
pub mod FacesAt
pub mod OverridesLeft
pub mod OverriddenFaces
-- What is loaded of an accepted job: rows, families and the asked request.
pub mod RowsAfter
pub mod OverriddenRows
pub mod FamiliesAt
pub mod JobTables
-- The offers of a family and of a request.
pub mod KeptPlaces
pub mod Members
pub mod FamilyLists
pub mod RowFamilies
pub mod Loaded
pub mod Turns
pub mod SoundOffers
pub mod TwoFaces
-- The offer call, the cursor, and the demands over a job.
pub mod NamedFaces
pub mod AnswerCases
pub mod CodeAnswers
pub mod CursorSteps
pub mod Demands
-- As for a lone font with the same tables.
pub mod LoneFonts
pub mod TwoReadings
