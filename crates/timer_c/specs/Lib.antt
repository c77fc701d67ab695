pub mod Slots
pub mod Lent
pub mod Outcomes
pub mod Frames
pub mod Calls
pub mod Iteration
