pub mod Types
pub mod Answers
pub mod Durable
pub mod Beginning
pub mod Opening
