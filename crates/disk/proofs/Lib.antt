pub mod Calling
pub mod Formatting
pub mod Locating
pub mod Saving
