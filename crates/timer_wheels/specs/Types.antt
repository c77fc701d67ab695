-- The types that this crate speaks of, and lists of rows, under their own names.
pub use Rattle.timer_base.specs.declared.limits.TheConstants.{LAST}
pub use Rattle.timer_base.specs.declared.timer.Handle.{Handle}
pub use Rattle.timer_base.specs.declared.timer.Timer.{Timer}
pub use Rattle.timer_base.specs.Pending.{Entry}
pub use Rattle.timer_base.specs.WheelState.{WheelState}
pub use Rattle.timer_links.specs.declared.kept.Kept.{Ghosts}
pub use Rattle.timer_links.specs.declared.kept.Node.{Node}
pub use Rattle.timer_links.specs.Lists.{list_at, KeyedLists, Row, Rows}
pub use Rattle.timer_wheels.specs.declared.table.Table.{Table}
