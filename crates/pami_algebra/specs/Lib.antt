pub mod Fraction
pub mod Ring
pub mod Integers
pub mod Gcd
pub mod Lowest
pub mod Reduced
pub mod Operations
pub mod Size
