pub mod Copying
pub mod Held
pub mod Itself
pub mod Owed
pub mod Short
pub mod Spelling
