pub mod Telling
pub mod TellingDialects
pub mod TellingLines
pub mod TellingOptions
pub mod TellingStretch
