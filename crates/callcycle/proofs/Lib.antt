pub mod Taken
pub mod Reached
pub mod Noted
pub mod Depth
