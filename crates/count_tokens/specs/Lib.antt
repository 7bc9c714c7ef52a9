pub mod CountedTable
pub mod TokenHelpers
pub mod Tokens
