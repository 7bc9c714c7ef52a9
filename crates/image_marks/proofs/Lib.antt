pub mod Marking
pub mod Numbers
