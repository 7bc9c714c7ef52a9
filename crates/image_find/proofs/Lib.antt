pub mod Bodies
pub mod LimitMet
pub mod Limits
pub mod Seeking
pub mod Tight
