pub mod Taken
pub mod Far
pub mod Unsent
