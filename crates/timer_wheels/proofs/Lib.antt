-- The lemmas that the proofs of this crate share.
pub mod TieredLemmas
pub mod bucket_lemmas
pub mod table_lemmas
pub mod hashed_lemmas
pub mod hier_lemmas
pub mod smooth_lemmas
pub mod lazy_lemmas
