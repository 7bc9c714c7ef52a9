pub mod Numbers
pub mod NumbersHelpers
