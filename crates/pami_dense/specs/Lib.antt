pub mod Rest
pub mod Search
pub mod Step
pub mod Alike
