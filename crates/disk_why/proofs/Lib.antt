pub mod Faults
pub mod Sound
pub mod Told
