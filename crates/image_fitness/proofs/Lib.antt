pub mod Alike
pub mod Moving
pub mod Table
pub mod Whole
