pub mod Joining
pub mod Stretches
