pub mod Acts
pub mod Drafts
pub mod Faults
pub mod Forms
pub mod Lines
pub mod Reading
pub mod Scripts
