pub mod Opening
pub mod Stepping
pub mod Table
pub mod Targets
pub mod Walking
