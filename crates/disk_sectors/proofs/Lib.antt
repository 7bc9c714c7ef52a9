pub mod Bits
pub mod Geometry
