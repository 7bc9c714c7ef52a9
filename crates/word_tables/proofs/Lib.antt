pub mod Laid
pub mod Lists
pub mod Ranged
pub mod TsbTest
