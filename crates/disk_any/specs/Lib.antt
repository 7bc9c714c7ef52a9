pub mod Any
pub mod AnyHelpers
