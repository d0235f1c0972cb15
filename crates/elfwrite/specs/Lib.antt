pub mod Ranged
pub mod Written
