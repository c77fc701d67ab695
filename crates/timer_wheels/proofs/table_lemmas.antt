-- Lemmas about tables of digits, and about each table.
pub mod DigitLaws
pub mod SlotLaws
pub mod VisitLaws
pub mod TableLaws
pub mod EqualDigits
-- made by tools/facts: proofs of tables
pub mod WideDigits
pub mod ClockDigits
