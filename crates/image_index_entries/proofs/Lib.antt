pub mod Back
pub mod OfImages
pub mod Reading
