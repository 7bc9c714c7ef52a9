pub mod Bound
pub mod Progress
pub mod Run
pub mod Table
pub mod Writing
pub mod Zeros
