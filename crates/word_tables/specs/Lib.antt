pub mod Basic35
pub mod Escapes
pub mod Rom
pub mod StoredHelpers
pub mod Tsb
pub mod WordsHelpers
