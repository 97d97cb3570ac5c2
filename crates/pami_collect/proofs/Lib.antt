pub mod Totals
pub mod Exchanges
pub mod Movements
pub mod Weights
