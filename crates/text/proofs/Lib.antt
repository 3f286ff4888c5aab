pub mod LayLaws
pub mod LineLaws
pub mod Whole
pub mod Worked
