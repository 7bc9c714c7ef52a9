pub mod Following
pub mod Laid
pub mod Table
pub mod Tight
