pub mod Body
pub mod BoundHelpers
pub mod Zero
