pub mod ByteTexts
pub mod HeldHelpers
