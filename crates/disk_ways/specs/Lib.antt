pub mod WayHelpers
pub mod Ways
