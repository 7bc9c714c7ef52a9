pub mod Digits
pub mod Each
pub mod Nearer
pub mod The
