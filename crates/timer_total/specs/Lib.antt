pub mod Refusals
pub mod Ticks
pub mod TimersState
