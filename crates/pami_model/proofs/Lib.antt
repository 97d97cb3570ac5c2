pub mod Judging
pub mod FirstFaults
pub mod Tables
pub mod Changed
pub mod Kept
pub mod Order
pub mod Finish
pub mod ModelNames
