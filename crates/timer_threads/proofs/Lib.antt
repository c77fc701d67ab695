pub mod TurnLemmas
pub mod ClientLemmas
pub mod ResultsLemmas
pub mod EndedLines
pub mod ThreadLemmas
pub mod LogParts
