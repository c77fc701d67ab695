-- The definitions of the lazy wheel.
pub mod Filed
pub mod Files
pub mod Filing
pub mod LazyWheel
pub mod Merges
