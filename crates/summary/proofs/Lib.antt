pub mod Summed
pub mod Turns
pub mod Worked
