pub mod Ahead
pub mod MarkHelpers
pub mod Proving
