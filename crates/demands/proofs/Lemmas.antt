pub mod Skeletons
pub mod Shelves
