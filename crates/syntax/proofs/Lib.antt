pub mod Lines
pub mod Glances
pub mod Filled
pub mod Framing
