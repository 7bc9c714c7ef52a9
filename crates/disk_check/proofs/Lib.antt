pub mod Holding
pub mod Looking
