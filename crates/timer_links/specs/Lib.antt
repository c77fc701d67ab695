-- The definitions of this crate.
pub mod Types
pub mod Lists
pub mod Ring
pub mod Links
