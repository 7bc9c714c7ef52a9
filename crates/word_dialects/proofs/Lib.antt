pub mod Naming
pub mod Tight
