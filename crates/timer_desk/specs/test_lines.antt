-- The definitions of the lines for tests (`src/test_lines/`). No promise of the product cites them.
pub mod Locked
pub mod Memory
