-- The definitions of the hashed wheel (Scheme 6).
pub mod Hashed
pub mod HashedWheel
pub mod Sweep
