pub mod Lexeme
pub mod Scanning
pub mod Told
pub mod Classes
