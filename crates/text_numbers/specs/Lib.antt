pub mod NumberHelpers
pub mod Numbering
