pub mod Digits
pub mod Lining
pub mod Progress
