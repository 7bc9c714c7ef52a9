pub mod GivenBack
pub mod Naming
pub mod Showing
pub mod Splitting
