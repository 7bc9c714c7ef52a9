pub mod Both
pub mod Groups
pub mod Living
pub mod Storage
