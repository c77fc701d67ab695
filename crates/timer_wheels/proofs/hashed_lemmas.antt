-- Lemmas for the hashed wheel.
pub mod SweepLemmas
pub mod Ticks
pub mod CountdownLemmas
pub mod RevolutionLemmas
pub mod ExactWakeUps
