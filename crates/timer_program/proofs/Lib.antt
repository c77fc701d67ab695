pub mod KeptStreamLemmas
pub mod OptionLemmas
