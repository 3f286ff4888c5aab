pub mod Turns
pub mod Order
pub mod Backs
pub mod Places
pub mod Keeping
pub mod Readings
