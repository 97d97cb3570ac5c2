pub mod ConditionWords
pub mod Tests
pub mod Verdict
pub mod Holds
pub mod Shows
pub mod Lists
