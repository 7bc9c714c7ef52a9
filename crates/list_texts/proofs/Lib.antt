pub mod Made
pub mod TextTable
