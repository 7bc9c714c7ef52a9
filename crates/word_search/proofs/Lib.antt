pub mod Comparing
pub mod Order
pub mod Runs
pub mod Sameness
pub mod Search
pub mod Storing
