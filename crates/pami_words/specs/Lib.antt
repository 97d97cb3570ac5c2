pub mod Table
pub mod Numbers
pub mod Values
pub mod Items
pub mod Fronts
pub mod Words
