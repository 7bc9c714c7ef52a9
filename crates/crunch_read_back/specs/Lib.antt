pub mod MeasuredBack
pub mod ProvedTable
pub mod ReadingBack
pub mod ReadsBack
