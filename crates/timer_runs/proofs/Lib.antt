pub mod RunLists
pub mod RunLemmas
pub mod RunExample
