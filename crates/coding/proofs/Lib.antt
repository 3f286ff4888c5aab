pub mod Joins
pub mod Groups
pub mod Values
