pub mod Standing
pub mod Table
