-- The types that contracts of this crate speak of, under their own names.
pub use Rattle.timer_base.specs.declared.limits.TheConstants.{LAST}
pub use Rattle.timer_durable.specs.declared.beginning.Beginning.{Beginning}
pub use Rattle.timer_durable.specs.declared.beginning.Kept.{Kept}
pub use Rattle.timer_durable.specs.declared.fault.BeginFault.{BeginFault}
pub use Rattle.timer_durable.specs.declared.fault.KeepFault.{KeepFault}
pub use Rattle.timer_journal.specs.declared.fault.JournalFault.{JournalFault}
