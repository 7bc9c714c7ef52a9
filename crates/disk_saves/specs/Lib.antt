pub mod FileHelpers
pub mod SaveHelpers
