-- Lemmas for the lazy wheel.
pub mod FiledLemmas
pub mod Ticks
pub mod FilingLemmas
pub mod RowSums
pub mod FilesLemmas
pub mod FilingCounts
pub mod Deadlines
pub mod Leaps
pub mod MergeLemmas
pub mod BinLemmas
pub mod SortLemmas
