pub mod Bytes
pub mod Search
pub mod Trim
