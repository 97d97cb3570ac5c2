pub mod Members
pub mod Rises
