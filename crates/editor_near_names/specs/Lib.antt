pub mod Changes
pub mod ChangesHelpers
pub mod Nearest
pub mod NearestHelpers
pub mod Parts
