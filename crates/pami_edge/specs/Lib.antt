pub mod Outside
pub mod Lines
pub mod Memory
pub mod Plan
pub mod Calls
