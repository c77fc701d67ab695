-- The lemmas that the proofs of this crate and of those above share.
pub mod Basics
pub mod OrderLaws
pub mod Members
pub mod OneOrder
pub mod TickLaws
pub mod HeldLaws
pub mod PendingLaws
pub mod PlainExpiries
pub mod PlainJumps
pub mod PlainHeld
pub mod PlainSteps
