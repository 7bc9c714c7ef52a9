pub mod Given
pub mod Told
pub mod ToldDialects
pub mod ToldLines
pub mod ToldStretch
