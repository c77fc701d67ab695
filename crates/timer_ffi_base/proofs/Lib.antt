pub mod CellParts
pub mod Casts
pub mod CellLaws
