-- The lemmas that the proofs of this crate share.
pub mod Rows
pub mod Rings
pub mod UniqueLists
pub mod Room
pub mod LinksCalls
pub mod NewLinks
pub mod KeptNodes
