pub mod Outcomes
pub mod Storing
pub mod Tight
