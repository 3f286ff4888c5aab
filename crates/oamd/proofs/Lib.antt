pub mod Table
pub mod Reserved
pub mod Worked
pub mod WorkedBatch
pub mod WorkedSift
pub mod Ends
pub mod Seed
