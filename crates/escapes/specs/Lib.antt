pub mod KeyHelpers
pub mod TailHelpers
