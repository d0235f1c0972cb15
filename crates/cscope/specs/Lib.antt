pub mod Scope
pub mod Slots
