pub mod Script
pub mod Dense
pub mod Expression
