pub mod Counted
pub mod Examples
