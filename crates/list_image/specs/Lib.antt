pub mod Alike
pub mod Listing
