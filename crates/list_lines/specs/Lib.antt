pub mod Body
pub mod LineHelpers
