pub mod Scripts
pub mod Exact
pub mod Lists
pub mod CostLists
pub mod ListsOf
pub mod Factored
pub mod Optimal
pub mod RangeLines
