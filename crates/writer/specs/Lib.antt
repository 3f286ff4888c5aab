pub mod Most
pub mod Parts
pub mod Survey
