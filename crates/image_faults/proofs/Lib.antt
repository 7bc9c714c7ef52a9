pub mod Telling
pub mod Unmet
