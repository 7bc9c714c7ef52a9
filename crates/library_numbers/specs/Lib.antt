pub mod Choices
pub mod FaultNumbers
pub mod Overview
