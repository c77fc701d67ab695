-- The types that contracts of this crate speak of, under their own names.
pub use Rattle.timer_base.specs.declared.limits.TheConstants.{LAST}
pub use Rattle.timer_base.specs.declared.timer.Handle.{Handle}
pub use Rattle.timer_base.specs.declared.timer.Timer.{Timer}
