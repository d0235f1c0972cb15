pub mod Entries
pub mod Machine
pub mod Reader
pub mod Rules
pub mod Source
