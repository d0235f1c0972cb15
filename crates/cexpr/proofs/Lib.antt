pub mod Delays
pub mod Scratchpads
pub mod Truths
