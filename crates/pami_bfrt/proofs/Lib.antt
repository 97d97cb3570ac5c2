pub mod Firsts
pub mod Gathered
pub mod Walked
pub mod Tested
pub mod Matched
pub mod Ended
pub mod Distinct
pub mod Entrants
