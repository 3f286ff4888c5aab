pub mod Own
pub mod Lemmas
pub mod Theorem
pub mod Chains
pub mod Corollary
pub mod Occurs
