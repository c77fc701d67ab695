mod Tests
mod Reading
mod Writing
mod Crashes
pub mod Moments
mod Past
mod Steps
