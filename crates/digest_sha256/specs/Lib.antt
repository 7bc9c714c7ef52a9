pub mod Constants
pub mod Hex
pub mod Pieces
pub mod Sha256
pub mod StepHelpers
