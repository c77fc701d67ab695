-- Lemmas about buckets, rows and bits, which all wheels share.
pub mod AllLemmas
pub mod RowLemmas
pub mod Calls
pub mod Handles
pub mod Updates
pub mod RoomLemmas
pub mod WalkLemmas
pub mod ShownLemmas
pub mod OccupiedLemmas
pub mod WheelUpdates
pub mod ReplaceLemmas
pub mod WakeUpLemmas
pub mod DeadlineLemmas
pub mod IterationLemmas
pub mod Postponed
pub mod BitLemmas
pub mod OrderedLists
