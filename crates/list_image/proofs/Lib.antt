pub mod Agreeing
pub mod Examples
pub mod Longest
pub mod Whole
