pub mod Texts
pub mod Simulation
