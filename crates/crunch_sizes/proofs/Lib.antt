pub mod LineBounds
pub mod Sizing
