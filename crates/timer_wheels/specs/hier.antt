-- The definitions of the hierarchy of wheels (Scheme 7), which the lazy and the smooth wheel use, too.
pub mod Hier
pub mod HierWheel
pub mod Leap
pub mod Migration
pub mod Placement
