pub mod Causes
pub mod Held
pub mod Items
pub mod Labels
pub mod Made
pub mod Notes
pub mod Printing
pub mod Reading
