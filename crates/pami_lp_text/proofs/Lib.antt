pub mod Scans
pub mod Longest
pub mod Pieces
pub mod Words
pub mod Classing
