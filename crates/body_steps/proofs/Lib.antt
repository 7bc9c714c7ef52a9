pub mod Braces
