pub mod Task
pub mod Factor
pub mod Scripts
pub mod Batch
pub mod Work
pub mod Walk
pub mod Phases
