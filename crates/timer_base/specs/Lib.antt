-- The definitions of this crate, and in WellFormed the lemmas that its ghost items cite.
pub mod Types
pub mod Order
pub mod Pending
pub mod Layout
pub mod PlainState
pub mod WheelState
pub mod WellFormed
pub mod WakeUps
pub mod Counts
