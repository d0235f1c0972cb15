pub mod Ran
pub mod Machine
pub mod Simulates
