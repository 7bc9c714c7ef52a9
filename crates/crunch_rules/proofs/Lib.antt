pub mod Lining
pub mod Placing
pub mod Reaching
