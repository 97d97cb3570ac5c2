pub mod Walked
pub mod Priced
pub mod Rows
pub mod Summed
