pub mod Line
pub mod Words
pub mod Head
pub mod Names
pub mod Letters
pub mod Certificate
