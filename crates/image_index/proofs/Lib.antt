pub mod Counting
pub mod Fitting
pub mod Putting
pub mod Reporting
pub mod Sounding
pub mod Whole
