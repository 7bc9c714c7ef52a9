pub mod Finding
pub mod Following
pub mod Naming
pub mod Placing
