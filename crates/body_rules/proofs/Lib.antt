pub mod Beginnings
pub mod PlainSteps
pub mod ShortSteps
pub mod StringSteps
