pub mod Basic35
pub mod Table
pub mod Texts
pub mod Tight
