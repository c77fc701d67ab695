-- The types that contracts of this crate speak of, under their own names.
pub use Rattle.timer_links.specs.declared.kept.Node.{Node}
pub use Rattle.timer_links.specs.declared.ring.Neighbours.{Neighbours}
pub use Rattle.timer_links.specs.declared.ring.TheConstants.{INDEXES}
