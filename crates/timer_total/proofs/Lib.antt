pub mod ClockEnds
