pub mod Marks
pub mod Prefixes
pub mod Resolving
pub mod Tails
