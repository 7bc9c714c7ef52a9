pub mod Table
pub mod UnitTokens
