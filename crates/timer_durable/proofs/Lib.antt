mod Counting
mod Sifting
mod Reading
mod Giving
mod Growing
mod Replaying
mod Splitting
mod Preambles
