pub mod Conditions
pub mod Damage
pub mod Kept
pub mod Laying
pub mod ReadBack
pub mod Standing
pub mod Writing
