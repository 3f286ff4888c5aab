pub mod Entries
pub mod Zeros
pub mod Limits
pub mod Search
pub mod Sent
pub mod Joined
