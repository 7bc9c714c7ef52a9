pub mod Telling
pub mod Undecided
pub mod Walking
