pub mod Steps
mod Locality
pub mod Kinds
mod Samples
mod Done
mod Goes
mod Table
mod Checks
pub mod Completion
mod Standing
pub mod First
