pub mod Rows
pub mod Threading
pub mod Told
