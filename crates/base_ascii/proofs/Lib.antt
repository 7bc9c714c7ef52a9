pub mod Choice
pub mod Laws
pub mod Ranges
pub mod Searching
