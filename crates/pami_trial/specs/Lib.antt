pub mod Draws
pub mod Transport
