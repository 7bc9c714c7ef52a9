pub mod Again
pub mod Decimal
pub mod Each
