pub mod Exchanges
pub mod CollectedState
