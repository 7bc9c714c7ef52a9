pub mod Demand
pub mod Listed
pub mod Measured
pub mod Stored
pub mod Table
pub mod Tight
