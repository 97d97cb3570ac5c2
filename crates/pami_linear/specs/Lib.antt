pub mod Sums
pub mod Lists
pub mod Systems
pub mod Active
pub mod Pivoting
pub mod Elimination
pub mod Chains
pub mod Products
