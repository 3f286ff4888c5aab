pub mod Near
pub mod Bytes
pub mod Order
pub mod Lists
