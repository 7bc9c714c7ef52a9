pub mod ResultHelpers
pub mod WayHelpers
