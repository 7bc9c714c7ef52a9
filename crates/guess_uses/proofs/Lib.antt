pub mod Behind
pub mod Bits
pub mod Marks
pub mod Uses
