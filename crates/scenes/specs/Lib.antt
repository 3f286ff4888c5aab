pub mod Resolved
pub mod Found
