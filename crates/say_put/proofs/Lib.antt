pub mod Clipping
pub mod Filling
pub mod Lending
pub mod Spelling
