pub mod Bounds
pub mod Shares
pub mod Sums
