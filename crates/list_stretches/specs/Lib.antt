pub mod Stretch
pub mod StretchHelpers
