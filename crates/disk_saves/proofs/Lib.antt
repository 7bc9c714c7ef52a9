pub mod Choosing
pub mod Lowest
pub mod Placing
pub mod Writing
