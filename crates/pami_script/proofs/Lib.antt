pub mod Scripts
pub mod Skipped
pub mod Values
pub mod Members
pub mod Loops
