pub mod Candidates
pub mod Firsts
pub mod Walks
pub mod Agreement
