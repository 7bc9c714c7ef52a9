pub mod References
pub mod ThreadHelpers
