pub mod BrokenHelpers
pub mod Why
