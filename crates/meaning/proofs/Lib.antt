pub mod Choice
pub mod Samples
pub mod Statuses
pub mod Sums
