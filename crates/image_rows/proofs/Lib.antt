pub mod Adding
pub mod Examples
pub mod Placing
pub mod Threading
