pub mod Told
pub mod InTurn
pub mod Since
