pub mod Texts
pub mod Objectives
