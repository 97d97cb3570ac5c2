pub mod Follow
pub mod Members
pub mod Search
pub mod Plain
pub mod Clear
pub mod Cleaned
pub mod Stored
pub mod Ahead
