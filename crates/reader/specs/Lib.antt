pub mod Layout
pub mod Lending
pub mod Rooms
pub mod Running
pub mod Steps
pub mod Sifts
pub mod Turns
