pub mod Switches
pub mod Starts
pub mod Runs
