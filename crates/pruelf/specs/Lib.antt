pub mod Executable
pub mod Fields
pub mod Front
pub mod Layout
pub mod Names
pub mod Parts
