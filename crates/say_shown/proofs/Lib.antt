pub mod Plain
pub mod Showing
