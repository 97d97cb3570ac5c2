pub mod Factors
pub mod Started
pub mod Batches
pub mod Solves
pub mod FinishedBatch
pub mod Told
pub mod Turns
pub mod Minors
