pub mod Chained
pub mod Following
pub mod Going
pub mod Logged
