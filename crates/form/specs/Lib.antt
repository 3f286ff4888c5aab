pub mod Valid
pub mod Coded
pub mod Form
pub mod Answer
pub mod Lemmas
