pub mod Bytes
pub mod Numbers
pub mod Stored
pub mod Entries
pub mod Laws
