pub mod SolvedBatch
pub mod Collected
pub mod Inside
pub mod Factored
pub mod Listed
pub mod KeptWork
pub mod Factors
