pub mod Rows
pub mod Sentence
