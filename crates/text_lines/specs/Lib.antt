pub mod SplitHelpers
pub mod TextLines
