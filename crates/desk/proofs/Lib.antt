pub mod Results
pub mod Within
