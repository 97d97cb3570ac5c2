pub mod Wide
pub mod Lists
pub mod Formed
pub mod Boxings
pub mod Even
