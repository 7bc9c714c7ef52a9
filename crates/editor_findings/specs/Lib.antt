pub mod Braces
pub mod Deciding
pub mod Sights
pub mod ToldHelpers
