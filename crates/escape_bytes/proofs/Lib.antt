pub mod Keying
pub mod Once
pub mod ShiftHome
pub mod Table
