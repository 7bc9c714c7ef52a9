pub mod Crunched
pub mod Measured
pub mod PassesHelpers
