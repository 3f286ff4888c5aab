pub mod Beds
pub mod Looks
pub mod Trim
