pub mod Lining
pub mod Tight
