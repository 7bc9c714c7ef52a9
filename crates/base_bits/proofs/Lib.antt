pub mod Bytes
pub mod Pens
pub mod Reading
pub mod Table
