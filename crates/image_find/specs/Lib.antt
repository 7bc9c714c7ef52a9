pub mod LimitMet
pub mod Sought
