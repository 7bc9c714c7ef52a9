pub mod ByteTexts
