pub mod Dialects
