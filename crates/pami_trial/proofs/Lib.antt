pub mod Below
pub mod Sequences
pub mod Names
pub mod Kept
pub mod Whole
