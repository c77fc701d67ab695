-- The definitions of the smooth wheel.
pub mod Wheels
pub mod Paces
pub mod Smooth
pub mod WakeUps
pub mod SmoothWheel
