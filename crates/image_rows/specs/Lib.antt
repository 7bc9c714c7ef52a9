pub mod Found
pub mod Jumps
pub mod PartHelpers
pub mod Places
