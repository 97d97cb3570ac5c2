pub mod Slices
pub mod Agreement
pub mod Follow
pub mod Sums
