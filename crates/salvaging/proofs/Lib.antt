pub mod Copies
pub mod RunLoop
pub mod Reports
pub mod Whole
pub mod Verdicts
