pub mod Batches
pub mod CallLemmas
pub mod IterationLemmas
