pub mod Answers
pub mod Locating
pub mod Same
pub mod Sizes
