pub mod Types
pub mod Turns
pub mod Work
pub mod Children
pub mod Client
pub mod Results
pub mod Threads
