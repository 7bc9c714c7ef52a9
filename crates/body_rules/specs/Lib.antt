pub mod Lexicon
pub mod ShortHelpers
pub mod Steps
