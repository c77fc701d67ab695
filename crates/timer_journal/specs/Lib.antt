pub mod Device
pub mod Format
pub mod Journal
pub mod Memory
pub mod Host
