pub mod Width
pub mod Sticky
pub mod SizeSteps
pub mod Free
