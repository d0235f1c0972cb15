pub mod Pairs
pub mod Rooms
