pub mod Giving
pub mod Laying
pub mod Writing
