pub mod Clipped
pub mod Rows
pub mod SpeltHelpers
