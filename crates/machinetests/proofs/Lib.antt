pub mod RunLemmas
pub mod Rows
pub mod Samples
