pub mod Cases
pub mod Tight
pub mod Walking
