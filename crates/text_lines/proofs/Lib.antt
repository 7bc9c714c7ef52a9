pub mod Blanks
pub mod Splitting
