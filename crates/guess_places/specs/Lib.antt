pub mod PlaceHelpers
pub mod Places
