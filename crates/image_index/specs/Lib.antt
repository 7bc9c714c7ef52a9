pub mod Index
pub mod IndexHelpers
