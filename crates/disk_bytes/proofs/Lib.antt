pub mod Laying
pub mod Taking
