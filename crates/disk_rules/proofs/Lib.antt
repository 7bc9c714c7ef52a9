pub mod Counted
pub mod Counting
pub mod Ends
pub mod Tight
