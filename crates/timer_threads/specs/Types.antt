-- The types that contracts of this crate speak of, under their own names.
pub use Rattle.timer_base.specs.declared.limits.TheConstants.{LAST}
pub use Rattle.timer_base.specs.declared.timer.Timer.{Timer}
pub use Rattle.timer_desk.specs.declared.driver.DriveEnd.{DriveEnd}
pub use Rattle.timer_desk.specs.declared.ring_ends.ClientEnd.{ClientEnd}
pub use Rattle.timer_desk.specs.declared.ring_ends.ClientReader.{ClientReader}
pub use Rattle.timer_desk.specs.declared.ring_ends.RequestsEnded.{RequestsEnded}
pub use Rattle.timer_desk.specs.declared.ring_ends.RingInlet.{RingInlet}
pub use Rattle.timer_desk.specs.declared.word.Numbered.{Numbered}
pub use Rattle.timer_desk.specs.declared.word.Word.{Word}
pub use Rattle.timer_threads.specs.declared.child.Child.{Child}
pub use Rattle.timer_threads.specs.declared.client.Client.{Client}
pub use Rattle.timer_threads.specs.declared.client_turn.Turn.{Turn}
pub use Rattle.timer_threads.specs.declared.log.Log.{Log}
pub use Rattle.timer_threads.specs.declared.outcome.ThreadsFault.{ThreadsFault}
pub use Rattle.timer_threads.specs.declared.outcome.Worked.{Worked}
