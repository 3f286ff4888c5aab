pub mod Slots
pub mod Numbers
pub mod Each
pub mod Whole
pub mod Outcomes
pub mod Shelves
pub mod Calls
