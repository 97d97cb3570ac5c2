pub mod Columns
pub mod State
pub mod Sums
