pub mod Marking
pub mod Mapping
pub mod Runs
pub mod Tracing
