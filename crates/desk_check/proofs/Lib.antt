pub mod Fewer
pub mod Held
