pub mod JumpHelpers
pub mod Jumps
