pub mod Bits
pub mod PenHelpers
