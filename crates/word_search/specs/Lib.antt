pub mod Compare
pub mod Find
pub mod Order
pub mod RunHelpers
pub mod Spelling
