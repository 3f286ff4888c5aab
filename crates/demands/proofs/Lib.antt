pub mod Lemmas
pub mod Appended
pub mod Unknown
pub mod Edited
pub mod Demand3
pub mod Missing
pub mod Batch
