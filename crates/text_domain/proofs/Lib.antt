pub mod EachOfEight
pub mod Limits
pub mod Tight
