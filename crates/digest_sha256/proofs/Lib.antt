pub mod Blocks
pub mod Bytes
pub mod Pieces
pub mod Roots
pub mod Schedule
pub mod Table
pub mod Turns
