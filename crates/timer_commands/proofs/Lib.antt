pub mod IndentedLemmas
pub mod PictureLemmas
mod VerbLemmas
mod KeepingLemmas
mod PlainLemmas
mod ResumedLemmas
