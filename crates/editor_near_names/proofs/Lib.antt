pub mod Choosing
pub mod Parting
pub mod Rows
