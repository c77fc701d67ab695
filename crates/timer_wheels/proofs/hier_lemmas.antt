-- Lemmas for the hierarchy of wheels.
pub mod MigrationLemmas
pub mod Ticks
pub mod MigrationLoop
pub mod MigrationTick
pub mod Invariant
pub mod LeapLemmas
pub mod NextVisitLemmas
pub mod Leaps
pub mod Counts
