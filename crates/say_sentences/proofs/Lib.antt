pub mod Skipping
pub mod Telling
