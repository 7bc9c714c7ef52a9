pub mod Faults
pub mod ToldHelpers
