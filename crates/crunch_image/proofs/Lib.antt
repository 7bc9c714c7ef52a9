pub mod Bounding
pub mod Whole
