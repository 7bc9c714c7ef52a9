pub mod Escape
pub mod KeyCodes
pub mod Keys
